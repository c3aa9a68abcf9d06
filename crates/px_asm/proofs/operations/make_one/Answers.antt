use Rattle.std.proofs.Common.{rules}
use Rattle.px_num.proofs.Basics.{◌++◌}
use Rattle.px_asm.proofs.Words.{grid_after_clocks, micros_on}
use Rattle.px_asm.proofs.OperationsLemmas.{clocked_first, overtaken}
use Rattle.px_asm.proofs.operations.make_one.Goals as goal

pub returns-then-is_overtaken-clause-device : goal.returns-then-is_overtaken-clause-device
returns-then-is_overtaken-clause-device g c =
    overtaken c.law_of_renewal.ensures.known c.law_of_renewal.ensures.again g.A.Array.BITS c.args.m.now
    (c.args.rest.now ++ c.args.behind.now) (g.A.Array.view c.args.array.now).device _ c.requires.can
    c.operate.ensures.operated c.if-is_overtaken.ensures

pub returns-else-is_overtaken-clause-device : goal.returns-else-is_overtaken-clause-device
returns-else-is_overtaken-clause-device g c = search (rules, clocked_first)

pub returns-else-is_overtaken-clause-pixels : goal.returns-else-is_overtaken-clause-pixels
returns-else-is_overtaken-clause-pixels g c =
    let before = (g.A.Array.view c.args.array.now).device in
    rw c.make_operation.ensures.device (grid_after_clocks g.A.Array.BITS before.state.tree.nx before.state.tree.ny
    (micros_on before c.args.m.now) before.state c.requires.can.pixels)
