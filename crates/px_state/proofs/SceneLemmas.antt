-- The operations of a scene as those of a listing.
use Rattle.px_state.proofs.Cited.{arith, columns_of, Device, device_after, IsAt, IsGoodCourse, IsGoodProgram}
use Rattle.px_state.proofs.Cited.{IsLawfulInMore, IsNextBroadcast, Macro, Micro, micro_at, passes_listing, Place, refl}
use Rattle.px_state.proofs.Cited.{rows_of, SceneView, Some, StandsFor, total_of_listing, ℕ, ◌∙◌, ◌≡◌}
use Rattle.px_control.specs.Program.{array_after, program}
use Rattle.px_control.specs.Program as program
use Rattle.px_state.proofs.CourseLemmas.{next_here}

pub same_total : (scene : SceneView) → program.total scene ≡ total_of_listing (passes_listing scene)
unfolding program
same_total scene = refl

pub good_course : (scene : SceneView) → IsGoodProgram scene → IsLawfulInMore → IsGoodCourse (passes_listing scene)
good_course scene good more = grind (arith, same_total)

pub device_is : (bits : ℕ) (scene : SceneView) (n : ℕ) (device : Device) → IsAt bits scene n device
    → device ≡ device_after bits (passes_listing scene) n
unfolding array_after program
device_is bits scene n device at = at.reached

-- where a place stands, the next broadcast is that of its operation and micro
pub next_at : (scene : SceneView) (p : Place) (m : Macro) (micro : Micro) → StandsFor scene p → p.current ≡ Some m
    → micro ≡ micro_at m (columns_of scene) (rows_of scene) p.micro
    → IsNextBroadcast (passes_listing scene) p.clock p.operation p.micro micro
next_at scene p m micro stands runs is =
    next_here (passes_listing scene) p.clock p.operation p.micro m micro (stands.current ∙ runs)
    (rw runs at stands.micro) stands.clock is
