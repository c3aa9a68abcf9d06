-- What a run is to answer, and the limits that a scene meets on its way to an array. Clauses of public calls
-- stand on it.
use Rattle.std.specs.Prelude.{ℕ, List, [], Bool, true, false, nat_lt, if◌then◌else◌, Option, Some, None}
use Rattle.px_prune.specs.Kept.{crowd_of}
use Rattle.px_scene.specs.Scenes.{SceneView}
use Rattle.px_sched.specs.Layouts.{layout_of, need_of}
use Rattle.px_commands.specs.declared.refusal.Refusal.{Refusal}
use Rattle.px_commands.specs.Refusals.{short_of_bits, too_many}

-- words that name no command; a refusal, before any output; a refusal behind an output; the whole output
pub data Outcome : Type 0 where
  usage : Outcome
  refused : Refusal → Outcome
  cut : List ℕ → Refusal → Outcome
  done : List ℕ → Outcome

-- the output of an outcome
abbrev pub output : Outcome → List ℕ
output usage = []
output (refused refusal) = []
output (cut bytes refusal) = bytes
output (done bytes) = bytes

-- its refusal, where it has one
abbrev pub refusal : Outcome → Option Refusal
refusal usage = None
refusal (refused reason) = Some reason
refusal (cut bytes reason) = Some reason
refusal (done bytes) = None

-- whether there is an output to write
abbrev pub has_output : Outcome → Bool
has_output usage = false
has_output (refused reason) = false
has_output (cut bytes reason) = true
has_output (done bytes) = true

-- the refusal, where there is one
abbrev pub unless_refused : Option Refusal → Outcome → Outcome
unless_refused None outcome = outcome
unless_refused (Some reason) outcome = refused reason

-- the outcome, where the passes of the scene need no more bits than a pixel has
abbrev pub within_memory : (bits : ℕ) → SceneView → Outcome → Outcome
within_memory bits scene outcome =
    if nat_lt bits (need_of (layout_of scene)) then refused (short_of_bits (need_of (layout_of scene))) else outcome

-- the refusal of a list past the limit, where there is one
abbrev pub refused_past : Option ℕ → Outcome → Outcome
refused_past None outcome = outcome
refused_past (Some count) outcome = refused (too_many count)

-- the outcome, where no wanted list of the shown expression is past the limit
abbrev pub within_products : SceneView → Outcome → Outcome
within_products scene outcome = refused_past (crowd_of scene) outcome

-- the outcome, where an array with pixels of so many bits can draw the scene
abbrev pub drawable : (bits : ℕ) → SceneView → Outcome → Outcome
drawable bits scene outcome = within_memory bits scene (within_products scene outcome)
