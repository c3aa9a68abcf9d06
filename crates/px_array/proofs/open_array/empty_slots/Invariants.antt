use Rattle.px_array.specs.OpenArrays.{AreEmpty}
use Rattle.px_array.proofs.open_array.empty_slots.Given as goal

abbrev pub invariant-loop : goal.invariant-loop
invariant-loop g l = record { filled : AreEmpty g.G.Grid.held l.counter l.nx l.ny l.slots.items }
