use Rattle.px_num.proofs.Basics.{arith}
use Rattle.px_control.proofs.WholeLemmas.{can_make, holds_more}
use Rattle.px_control.proofs.program.Program.make_held.Goals as goal

pub make_before-requires : goal.make_before-requires
make_before-requires g c =
    let held = c.as_slice.ensures in
    let behind = c.as_slice-2.ensures in
    record {
      can = rw (held.value, behind.value)
          (can_make c.laws.ensures.more g.A.Array.BITS c.args.self.now _ _ _ (g.A.Array.view c.args.array.now).device
          c.laws.ensures.good c.requires.holds (omega (arith, c.requires.order, c.requires.within))
          c.hold.ensures.lawful
          (rw held.value at held.fits) (rw behind.value at behind.fits));
    }

pub returns-clause-holds : goal.returns-clause-holds
returns-clause-holds g c =
    let next = c.hold.ensures in
    let made = c.make_before.ensures in
    holds_more g.A.Array.BITS c.args.self.now _ _ c.args.held.now.items c.hold.new.held.items
    (g.A.Array.view c.args.array.now).device _ c.requires.holds next.lawful next.leads made.pixels
    (rw (c.as_slice.ensures.value, c.as_slice-2.ensures.value) at made.device)
