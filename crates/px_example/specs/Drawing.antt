-- Why a text has no picture. Clauses of public calls stand on it.
use Rattle.std.specs.Prelude.{ℕ, List, Option, Some, None}
use Rattle.px_control.specs.declared.fault.JobFault.{JobFault}
use Rattle.px_frame.specs.Refusals.{job_refusal}
use Rattle.px_show.specs.Judged.{SceneFault}
use Rattle.px_scene.specs.Reading.{refusal_of, scene_of}
use Rattle.px_scene.specs.Text.{worded}
use Rattle.px_example.specs.declared.NotDrawn.{NotDrawn}
use Rattle.px_example.specs.declared.NotDrawn.TheVariants as n

-- the refusal of the array, where it has one
abbrev pub by_array : Option JobFault → Option NotDrawn
by_array None = None
by_array (Some fault) = Some (n.Array fault)

-- the refusal of the text, otherwise the array's of the scene
abbrev pub by_text : Option SceneFault → Option JobFault → Option NotDrawn
by_text None of_array = by_array of_array
by_text (Some fault) of_array = Some (n.Text fault)

-- why a text has no picture of an array with pixels of so many memory bits, where it has none
abbrev pub not_drawn : (bits : ℕ) → List ℕ → Option NotDrawn
not_drawn bits text = by_text (refusal_of text) (job_refusal bits (scene_of (worded text)))
