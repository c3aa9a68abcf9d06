-- What calls that carry operations out ask for, and what they leave. Only proofs and private functions stand on it.
use Rattle.std.specs.Prelude.{◌≡◌, ℕ, ◌+◌, ◌*◌, ◌≤◌, List, length}
use Rattle.px_array.specs.Arrays.{Device}
use Rattle.px_array.specs.Clocks.{all_clocked}
use Rattle.px_array.specs.Slots.{ArrayView, HasRun}
use Rattle.px_asm.specs.Micros.{all_micros}
use Rattle.px_asm.specs.Operations.{CanMake}
use Rattle.px_macro.specs.declared.operation.Macro.{Macro}

-- what the micros of some operations make of an array
unfoldable pub carried_out : List Macro → Device → Device
carried_out ms d = all_clocked (all_micros ms d.state.tree.nx d.state.tree.ny) d

-- an array has carried operations out: its slots stay, and its work grows by the clocks, at most 82 for each operation
pub record CarriesOut (ms : List Macro) (before now : ArrayView) : Type 0 where
  pub device : now.device ≡ carried_out ms before.device
  pub few : now.device.clocks ≤ before.device.clocks + 82 * length ms
  pub run : HasRun before now

-- of the whole, carried out from a start on, the rest is left
pub record IsRestOf (bits : ℕ) (whole rest : List Macro) (start now : ArrayView) : Type 0 where
  pub can : CanMake bits rest now.device
  pub same : carried_out rest now.device ≡ carried_out whole start.device
  pub few : now.device.clocks + 82 * length rest ≤ start.device.clocks + 82 * length whole
  pub run : HasRun start now
