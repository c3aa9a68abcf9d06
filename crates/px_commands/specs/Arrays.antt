-- What remains of the array where something is made on it. Clauses of public calls stand on it.
use Rattle.std.specs.Prelude.{◌≡◌, ℕ, ◌⊎◌}
use Rattle.px_array.specs.Arrays.{Device}
use Rattle.px_array.specs.Slots.{ArrayView, IsRunOnce, none_open}
use Rattle.px_scene.specs.Scenes.{SceneView}
use Rattle.px_frame.specs.Drawn.{IsDrawn}
use Rattle.px_commands.specs.declared.status.Status.{Status}
use Rattle.px_commands.specs.declared.status.Status.TheVariants as status

-- if memory runs out the array is as before, or none is open
abbrev pub IsKeptOrClosed : (before now : ArrayView) → Type 0
IsKeptOrClosed before now = (now ≡ before) ⊎ (now ≡ none_open)

-- what remains of the array, of its slots and its work too, where something is made on a new one: it is made, also if
-- it could not be written; and otherwise the array is as before
abbrev pub LeavesMade : (IsMade : Device → Type 0) → Status → (before now : ArrayView) → Type 0
LeavesMade IsMade status.Done before now = IsMade now.device × IsRunOnce now
LeavesMade IsMade status.WriteFault before now = IsMade now.device × IsRunOnce now
LeavesMade IsMade (status.Memory _) before now = IsKeptOrClosed before now
LeavesMade IsMade status before now = now ≡ before

-- where a scene is drawn
abbrev pub Draws : Status → (bits : ℕ) → SceneView → (before now : ArrayView) → Type 0
Draws status bits scene before now = LeavesMade (IsDrawn bits scene) status before now
