use Rattle.px_num.proofs.Basics.{◌≡◌, arith, nat_tests}
use Rattle.arrayvec.specs.ArrayVec.{array_vec_len}
use Rattle.px_array.proofs.WorkLaws.{run_none}
use Rattle.px_control.proofs.PlaceLemmas.{clocks_at}
use Rattle.px_control.proofs.WholeLemmas.{clocks_made, holds_first}
use Rattle.px_control.proofs.program.Program.march.Goals as goal

pub loop-held-init : goal.loop-held-init
loop-held-init g c =
    let bits = g.A.Array.BITS in
    let device = (g.A.Array.view c.args.array.now).device in
    let first = c.hold.ensures in
    record {
      stands = first.stands;
      micro = first.micro;
      within = first.within c.requires.order;
      holds = holds_first bits c.args.self.now _ _ _ device c.requires.at first.lawful first.leads;
      run = run_none _;
    }

pub returns-clause-worked : goal.returns-clause-worked
returns-clause-worked g c =
    let before = c.loop-held.invariant in
    let none : array_vec_len c.loop-held.held ≡ 0 = grind (arith, nat_tests) in
    let clocks = clocks_made g.A.Array.BITS c.args.self.now c.loop-held.place.clock c.loop-held.held.items _ none
    before.holds in
    let first = clocks_at _ _ _ _ c.requires.at in
    grind (arith, clocks, first)
