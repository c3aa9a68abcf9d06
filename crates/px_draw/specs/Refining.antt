-- What is made of the finer scene. Clauses of public calls stand on it.
use Rattle.std.specs.Prelude.{ℕ, Option, Some, None}
use Rattle.px_scene.specs.Scenes.{SceneView}
use Rattle.px_frame.specs.declared.fine_fault.FineFault.{FineFault}
use Rattle.px_frame.specs.FineFaults.{fine_fault}
use Rattle.px_frame.specs.Finer.{fine_scene}
use Rattle.px_frame.specs.Refined.{refined_image}
use Rattle.px_commands.specs.declared.refusal.Refusal.{Refusal}
use Rattle.px_commands.specs.Outcomes.{Outcome, done, drawable, unless_refused}
use Rattle.px_commands.specs.Refusals.{fault_refusal}

-- the refusal of a fault, where there is one
abbrev pub fault_refused : Option FineFault → Option Refusal
fault_refused None = None
fault_refused (Some found) = fault_refusal found

-- why a scene has no finer one, where it has none
abbrev pub fine_refusal : (s : ℕ) → SceneView → Option Refusal
fine_refusal s scene = fault_refused (fine_fault s scene)

-- the refined image, where there is a finer scene and an array with pixels of so many bits can draw it
abbrev pub refined : (s : ℕ) → SceneView → (bits : ℕ) → Outcome
refined s scene bits =
    unless_refused (fine_refusal s scene) (drawable bits (fine_scene s scene) (done (refined_image s scene)))
