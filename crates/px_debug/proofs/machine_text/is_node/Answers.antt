use Rattle.px_num.proofs.Basics.{◌<◌, ◌≤◌, ◌^◌, ap, arith, nat_tests}
use Rattle.px_debug.proofs.GridLemmas.{below_power}
use Rattle.px_debug.proofs.machine_text.is_node.Goals as goal

pub returns-then-is_level-clause-small : goal.returns-then-is_level-clause-small
returns-then-is_level-clause-small g c low =
    let inside = c.is_level.ensures.in_tree c.if-is_level.true in
    let level : c.args.level ≤ 18 = omega (
      arith,
      inside,
      ap (λ s. s.0) c.size-nx.ensures.size,
      ap (λ s. s.1) c.size-nx.ensures.size,
      c.requires.grid.0.1,
      c.requires.grid.1.1,
    ) in
    let index : c.args.index < 2 ^ c.args.level = grind (arith, nat_tests, low, c.power.ensures) in
    (level, below_power c.args.index c.args.level 18 index level)
