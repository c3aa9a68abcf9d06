-- One more plane at the end of a solid's list.
use Rattle.px_num.proofs.Basics.{ℕ, ◌<◌, List, [], ◌∷◌, ◌++◌, length, arith, length-append, All-append}
use Rattle.px_num.proofs.Basics.{all_pairs_push, All}
use Rattle.px_model.specs.declared.solid.Face.{Face}
use Rattle.px_model.specs.declared.limits.TheConstants.{MAX_PLANES_OF_A_KIND}
use Rattle.px_model.specs.Scenes.{AreFaces, IsColour, IsPlane}

all_of_one : {X : Type 0} (P : X → Type 0) (x : X) → P x → All P (x ∷ [])
all_of_one P x holds y d lt = grind arith

pub All-push : {X : Type 0} (P : X → Type 0) (xs : List X) (x : X) → All P xs → P x → All P (xs ++ x ∷ [])
All-push P xs x all holds = All-append P xs (x ∷ []) all (all_of_one P x holds)

pub faces_pushed : (near : ℕ) (faces : List Face) (face : Face) → AreFaces near faces
    → length faces < MAX_PLANES_OF_A_KIND → IsPlane face.plane → IsColour face.colour → near < face.number
    → All (λ f. f.number < face.number) faces → AreFaces near (faces ++ face ∷ [])
faces_pushed near faces face are room plane colour above order = record {
  few = omega (arith, length-append faces (face ∷ []));
  planes = All-push (λ f. IsPlane f.plane) faces face are.planes plane;
  colours = All-push (λ f. IsColour f.colour) faces face are.colours colour;
  numbers = All-push (λ f. near < f.number) faces face are.numbers above;
  order = all_pairs_push (λ f g. f.number < g.number) faces face are.order order;
}
