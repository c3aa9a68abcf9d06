use Rattle.std.proofs.Common.{rules}
use Rattle.px_asm.proofs.OperationsLemmas.{can_go_on}
use Rattle.px_asm.proofs.operations.make_before.Goals as goal

pub make_one-requires-clause-can : goal.make_one-requires-clause-can
make_one-requires-clause-can g c = search (rules, can_go_on)
