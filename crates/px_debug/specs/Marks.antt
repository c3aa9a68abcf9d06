-- A session: the places of the passed quarters, and the last broadcasts. Only proofs and private functions stand on it.
use Rattle.std.specs.Prelude.{◌≡◌, ℕ, ◌-◌, ◌*◌, ◌<◌, ◌≤◌, IfSome, List, length, take, get_or, Option, Some}
use Rattle.circular_buffer.specs.Buffer.{keep_last}
use Rattle.px_array.specs.Arrays.{Device}
use Rattle.px_array.specs.Slots.{slot_of}
use Rattle.px_array.specs.declared.micro.Micro.{Micro}
use Rattle.px_model.specs.Scenes.{SceneView}
use Rattle.px_control.specs.Program.{array_after, program}
use Rattle.px_control.specs.Standing.{StandsFor}
use Rattle.px_control.specs.declared.place.Place.{Place}

-- of four places so many are in use, and place k stands for the clock k * q
pub record HasMarks (scene : SceneView) (q count : ℕ) (places : List Place) : Type 0 where
  pub step : 1 ≤ q
  pub some : 1 ≤ count
  pub few : count ≤ 4
  pub long : length places ≡ 4
  pub stands : (k : ℕ) (d : Place) → k < count → StandsFor scene (get_or places k d)
  pub clocks : (k : ℕ) (d : Place) → k < count → (get_or places k d).clock ≡ k * q

-- the places are those of the quarters up to now, of which there are four at most
pub record AreMarked (q count now : ℕ) : Type 0 where
  pub passed : (count - 1) * q ≤ now
  pub next : count < 4 → now < count * q

-- the same, where the next one may have come just now
pub record AreAlmostMarked (q count now : ℕ) : Type 0 where
  pub passed : (count - 1) * q ≤ now
  pub next : count < 4 → now ≤ count * q

-- so many slots keep what those clocks leave, and no slot keeps anything else
pub record HasSlots (bits : ℕ) (scene : SceneView) (q count : ℕ) (slots : List (Option Device)) : Type 0 where
  pub kept : (k : ℕ) → k < count → slot_of slots k ≡ Some (array_after bits scene (k * q))
  pub only : (k : ℕ) → IfSome (slot_of slots k) (λ device. device ≡ array_after bits scene (k * q))

-- the last 32 broadcasts before a clock, oldest first
unfoldable pub last_before : SceneView → (now : ℕ) → List Micro
last_before scene now = keep_last 32 (take now (program scene))
