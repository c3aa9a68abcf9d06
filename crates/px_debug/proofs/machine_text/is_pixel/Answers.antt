use Rattle.px_num.proofs.Basics.{◌<◌, ◌^◌, ap, arith, nat_tests}
use Rattle.px_debug.proofs.GridLemmas.{below_power}
use Rattle.px_debug.proofs.machine_text.is_pixel.Goals as goal

pub returns-then-x-power-clause-small : goal.returns-then-x-power-clause-small
returns-then-x-power-clause-small g c low =
    let nx = c.size-nx.result.0 in
    let ny = c.size-nx.result.1 in
    let column : c.args.x < 2 ^ nx = omega (arith, c.if-x-power.true, c.power.ensures) in
    let row : c.args.y < 2 ^ ny = grind (arith, nat_tests, low, c.power-then-x-power.ensures) in (
      below_power c.args.x nx 9 column (omega (arith, ap (λ s. s.0) c.size-nx.ensures.size, c.requires.grid.0.1)),
      below_power c.args.y ny 9 row (omega (arith, ap (λ s. s.1) c.size-nx.ensures.size, c.requires.grid.1.1)),
    )
