-- Operations that are made on an array, one after another. Clauses of public calls stand on it.
use Rattle.std.specs.Prelude.{ℕ, ◌+◌, ◌-◌, ◌*◌, ◌^◌, ◌≤◌, All, List, length}
use Rattle.px_array.specs.Arrays.{Device, HasGrid}
use Rattle.px_array.specs.Clocks.{all_clocked}
use Rattle.px_asm.specs.Micros.{all_micros}
use Rattle.px_macro.specs.Macros.{IsLawful}
use Rattle.px_macro.specs.declared.operation.Macro.{Macro}
use Rattle.px_tree.specs.Nodes.{IsGrid}

-- what the micros of some operations make of an array
abbrev pub all_made : List Macro → Device → Device
all_made ops d = all_clocked (all_micros ops d.state.tree.nx d.state.tree.ny) d

-- an array whose pixels have so many memory bits can make the operations, and count their clocks, at most 82 for each
pub record CanMake (bits : ℕ) (ops : List Macro) (d : Device) : Type 0 where
  pub grid : IsGrid d.state.tree.nx d.state.tree.ny
  pub pixels : HasGrid bits d.state.tree.nx d.state.tree.ny d.state
  pub lawful : All (λ m. IsLawful m 256) ops
  pub places : All (λ m. IsLawful m bits) ops
  pub counted : d.clocks + 82 * length ops ≤ 2 ^ 64 - 1
