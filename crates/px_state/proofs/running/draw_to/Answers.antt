use Rattle.px_state.proofs.Cited.{arith, at_opened, ◌≡◌}
use Rattle.px_state.proofs.SceneLemmas.{device_is, same_total}
use Rattle.px_state.proofs.running.draw_to.Goals as goal

pub run_clocks-place-requires-clause-at : goal.run_clocks-place-requires-clause-at
run_clocks-place-requires-clause-at g c =
    rw c.first.ensures.clock (at_opened g.A.Array.BITS c.args.program.now _ c.requires.held c.requires.new)

pub returns : goal.returns
returns g c =
    let scene = c.args.program.now in
    let made = c.run_clocks-place.ensures in
    let clock_is : c.run_clocks-place.result.clock ≡ c.args.clock = omega (arith, made.clock, c.first.ensures.clock) in
    record {
      device = device_is g.A.Array.BITS scene c.args.clock _ (rw clock_is at made.at);
      worked = made.worked;
      coming = rw clock_is at c.next_at.ensures.some;
      ended = rw (clock_is, same_total scene) at c.next_at.ensures.end;
    }
