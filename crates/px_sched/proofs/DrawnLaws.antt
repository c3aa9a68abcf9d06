-- The kept products of a scene have literals, and these are of solids of the scene.
use Rattle.px_num.proofs.Basics.{◌≡◌, ◌<◌, All, List, ◌∷◌, get_or, length, refl, sym, subst, arith, inl, inr, []}
use Rattle.px_num.proofs.Basics.{length-append, length-map, All-cons, All-nil}
use Rattle.px_sched.proofs.Words.{HasKnownLiterals, HasPlain, HasSolidsBelow, IsLawfulScene, kept_of, leaves_below}
use Rattle.px_sched.proofs.Words.{literals, Product, SceneView, sum_of_products}
use Rattle.px_normal.proofs.NormalLemmas.{all_below, all_plain}
use Rattle.px_prune.specs.Bounding.{bounding_box}
use Rattle.px_prune.proofs.StayingLemmas.{kept_below, kept_plain}
use Rattle.px_normal.proofs.SolidsLaws.{solids_laws}
use Rattle.px_sched.proofs.MemberLaws.{In}
use Rattle.px_sched.proofs.ProductLaws.{each_literal, in_solids}

all_members : {X : Type 0} (P : X → Type 0) (xs : List X) → ((x : X) → In x xs → P x) → All P xs
all_members P [] each = All-nil P
all_members P (x ∷ xs) each = All-cons P x xs (each x (inl refl)) (all_members P xs (λ y h. each y (inr h)))

drawn : (scene : SceneView) (p : Product) → HasPlain p → HasSolidsBelow (length scene.solids) p
    → HasKnownLiterals scene p
drawn scene p plain known = record {
  some = grind (arith, length-append, length-map);
  known = all_members (λ r. r.solid < length scene.solids) (literals p)
      (each_literal p (λ r. r.solid < length scene.solids)
      (λ q h. let i = in_solids p.plain q h in known.0 q i.0 i.1)
      (λ q h. let i = in_solids p.barred q h in known.1 q i.0 i.1));
}

pub kept_drawn : (scene : SceneView) → IsLawfulScene scene → (ps : List Product)
    → ps ≡ kept_of scene (sum_of_products scene.show) → All (HasKnownLiterals scene) ps
kept_drawn scene lawful ps is =
    let count = length scene.solids in
    let sum = sum_of_products scene.show in
    let boxes = bounding_box scene in
    let leaves = leaves_below count 256 (omega (arith, lawful.solids)) scene.show lawful.shown in
    subst (All (HasKnownLiterals scene)) (sym is) (λ k d low. drawn scene (get_or (kept_of scene sum) k d)
    (kept_plain boxes sum (all_plain scene.show leaves) k d low)
    (kept_below solids_laws count boxes sum (all_below count scene.show leaves lawful.shown) k d low))
