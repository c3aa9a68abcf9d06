-- Where a session stands, and where each command leads. Clauses of public calls stand on it.
use Rattle.std.specs.Prelude.{◌≡◌, ℕ, zero, suc, ◌+◌, ◌-◌, ◌*◌, ◌/◌, ◌≤◌, min, max, nat_lt, if◌then◌else◌}
use Rattle.std.specs.Prelude.{IfSome, List, [], ◌∷◌, Some}
use Rattle.px_array.specs.Slots.{ArrayView, slot_of}
use Rattle.px_model.specs.Scenes.{SceneView}
use Rattle.px_control.specs.Program.{IsAt, array_after, ends_after, total}
use Rattle.px_debug.specs.declared.command.Command.{Command}
use Rattle.px_debug.specs.declared.command.Command.TheVariants as c
use Rattle.px_debug.specs.declared.session.Going.{Going}
use Rattle.px_debug.specs.declared.session.Going.TheVariants as g

-- what a contract sees of a session: its scene, the broadcasts made, and the lines that were given
pub record SessionView : Type 0 where
  pub scene : SceneView
  pub now : ℕ
  pub lines : ℕ

-- the clock after so many ends, of those that are to come; the last clock where there are fewer
abbrev pub after_ends : (count : ℕ) → (ends : List ℕ) → (now last : ℕ) → ℕ
after_ends zero ends now last = now
after_ends (suc count) [] now last = last
after_ends (suc count) (e ∷ ends) now last = after_ends count ends e last

-- where a command leads
abbrev pub moved : SceneView → (now : ℕ) → Command → ℕ
moved scene now (c.Step n) = min (now + n) (total scene)
moved scene now (c.Macro n) = after_ends n (ends_after scene now) now (total scene)
moved scene now c.Run = total scene
moved scene now (c.Until n) = max now (min n (total scene))
moved scene now (c.Back n) = now - n
moved scene now other = now

-- only `quit` ends a session
abbrev pub going : Command → Going
going c.Quit = g.Quit
going other = g.More

-- a quarter of a program, and a clock at least
abbrev pub quarter_of : SceneView → ℕ
quarter_of scene = max 1 (total scene / 4)

-- the most clocks of a way back to a clock: a quarter and 32, and none where it is the clock of now
abbrev pub back_clocks : SceneView → (now target : ℕ) → ℕ
back_clocks scene now target = if nat_lt target now then quarter_of scene + 32 else 0

-- the most clocks that a command makes
abbrev pub most_clocks : SceneView → (now : ℕ) → Command → ℕ
most_clocks scene now (c.Back n) = back_clocks scene now (now - n)
most_clocks scene now (c.Step n) = moved scene now (c.Step n) - now
most_clocks scene now (c.Macro n) = moved scene now (c.Macro n) - now
most_clocks scene now c.Run = total scene - now
most_clocks scene now (c.Until n) = moved scene now (c.Until n) - now
most_clocks scene now other = 0

-- an array is as the session's broadcasts leave it, its slots keep what each passed quarter left, and nothing else
pub record Fits (bits : ℕ) (s : SessionView) (array : ArrayView) : Type 0 where
  pub few : bits ≤ 256
  pub at : IsAt bits s.scene s.now array.device
  pub kept : (slot : ℕ) → slot ≤ 3 → slot * quarter_of s.scene ≤ s.now →
      slot_of array.slots slot ≡ Some (array_after bits s.scene (slot * quarter_of s.scene))
  pub only : (slot : ℕ) →
      IfSome (slot_of array.slots slot) (λ device. device ≡ array_after bits s.scene (slot * quarter_of s.scene))
