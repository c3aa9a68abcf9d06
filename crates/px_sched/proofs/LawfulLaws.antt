-- The passes are lawful in any memory that has room for them; what holds of all elements of lists.
use Rattle.px_num.proofs.Basics.{arith, ◌≡◌, refl, ℕ, ◌≤◌, List, ◌∷◌, get_or, flat_map, All, cases_lt, get_or_past, []}
use Rattle.px_num.proofs.Basics.{All-append, All-get_or, All-head, All-nil, All-tail, Some, get_or_from_slice_get}
use Rattle.px_num.proofs.Basics.{slice_get, slice_get_within}
use Rattle.px_sched.proofs.Words.{IsLawfulScene, IsLawfulSolid, layout_of, Macro, need_of, passes_with, plan_of}
use Rattle.px_sched.proofs.Words.{SceneView}
use Rattle.px_macro.specs.Macros.{IsLawful, IsLawfulInMore}
use Rattle.px_sched.specs.Passes.{passes}
use Rattle.px_sched.specs.PassesFacts.{PassesAreLawful}

-- the passes are those over the plan of the scene, by its layout
pub passes_are : (scene : SceneView) → passes scene ≡ passes_with scene (layout_of scene) (plan_of scene)
unfolding passes
passes_are scene = refl

pub passes_lawful : IsLawfulInMore → PassesAreLawful → (bits : ℕ) (scene : SceneView) → IsLawfulScene scene
    → All IsLawfulSolid scene.solids → need_of (layout_of scene) ≤ bits → All (λ m. IsLawful m bits) (passes scene)
passes_lawful more lawful bits scene h solids enough = grind arith

pub all_flat : {X Y : Type 0} (P : Y → Type 0) (Q : X → Type 0) (f : X → List Y) → ((x : X) → Q x → All P (f x))
    → (xs : List X) → All Q xs → All P (flat_map f xs)
all_flat P Q f each [] all = All-nil P
all_flat P Q f each (x ∷ xs) all =
    All-append P (f x) (flat_map f xs) (each x (All-head Q x xs all)) (all_flat P Q f each xs (All-tail Q x xs all))

-- what holds of each element, and of what stands past them
pub all_or : {X : Type 0} (P : X → Type 0) (xs : List X) (d : X) → All P xs → P d → (i : ℕ) → P (get_or xs i d)
all_or P xs d all past i = grind (arith, cases_lt, get_or_past)

-- each operation of lawful ones is
pub lawful_here : (bits : ℕ) (ms : List Macro) (k : ℕ) (m : Macro) → slice_get ms k ≡ Some m
    → All (λ m. IsLawful m bits) ms → IsLawful m bits
lawful_here bits ms k m e h =
    rw (get_or_from_slice_get ms k m m e) at (All-get_or (λ m. IsLawful m bits) ms k m (slice_get_within ms k m e) h)
