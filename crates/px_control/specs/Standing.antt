-- Where a job is in the program of its scene. Clauses of public calls stand on it.
use Rattle.std.specs.Prelude.{◌≡◌, ℕ, ◌+◌, ◌<◌, ◌≤◌, ◌⊎◌, min, length, Option, Some, None, slice_get}
use Rattle.px_macro.specs.declared.operation.Macro.{Macro}
use Rattle.px_model.specs.Scenes.{SceneView}
use Rattle.px_sched.specs.Cursors.{Stands}
use Rattle.px_sched.specs.Passes.{passes}
use Rattle.px_array.specs.Slots.{ArrayView, none_open}
use Rattle.px_control.specs.declared.fault.JobFault.{JobFault}
use Rattle.px_control.specs.declared.fault.JobFault.TheVariants.{PixelMemory, Products, Memory}
use Rattle.px_control.specs.declared.place.Place.{Place}
use Rattle.px_control.specs.Program.{cycles_in, start_of}

-- the micro is one of the operation's, or the first where none is left
abbrev pub IsWithinOperation : SceneView → (micro : ℕ) → Option Macro → Type 0
IsWithinOperation scene micro None = micro ≡ 0
IsWithinOperation scene micro (Some m) = micro < cycles_in scene m

-- the place is that of its clock: its operation and micro are those of the next broadcast, and its cursor has
-- given the operation
pub record StandsFor (scene : SceneView) (p : Place) : Type 0 where
  pub cursor : Stands scene p.cursor
  pub given : p.cursor.given ≡ min (p.operation + 1) (length (passes scene))
  pub operation : p.operation ≤ length (passes scene)
  pub current : slice_get (passes scene) p.operation ≡ p.current
  pub clock : p.clock ≡ start_of scene p.operation + p.micro
  pub micro : IsWithinOperation scene p.micro p.current

-- what a contract sees of a job
pub record JobView : Type 0 where
  pub scene : SceneView
  pub place : Place

-- what a refusal leaves of the array, of its slots and its work too: only if memory runs out may it be another
-- one, and then none is open
abbrev pub LeavesOnRefusal : JobFault → (before now : ArrayView) → Type 0
LeavesOnRefusal (PixelMemory need) before now = now ≡ before
LeavesOnRefusal (Products count) before now = now ≡ before
LeavesOnRefusal (Memory _) before now = (now ≡ before) ⊎ (now ≡ none_open)
