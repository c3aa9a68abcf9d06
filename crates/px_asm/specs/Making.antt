-- The micros of an operation on the grid of an array. Clauses of public calls stand on it.
use Rattle.std.specs.Prelude.{ℕ, List}
use Rattle.px_array.specs.Arrays.{Device}
use Rattle.px_array.specs.declared.micro.Micro.{Micro}
use Rattle.px_macro.specs.declared.operation.Macro.{Macro}
use Rattle.px_asm.specs.Micros.{cycles, micros}

abbrev pub micros_on : Device → Macro → List Micro
micros_on d m = micros m d.state.tree.nx d.state.tree.ny

abbrev pub cycles_on : Device → Macro → ℕ
cycles_on d m = cycles m d.state.tree.nx d.state.tree.ny
