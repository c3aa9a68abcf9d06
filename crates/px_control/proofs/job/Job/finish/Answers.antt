use Rattle.px_num.proofs.Basics.{◌≡◌, arith, subst, sym}
use Rattle.px_array.proofs.WorkLaws.{still_once}
use Rattle.px_control.specs.Program.{CanRun, IsAt, total}
use Rattle.px_control.proofs.PlaceLemmas.{clocks_at}
use Rattle.px_control.proofs.job.Job.finish.Goals as goal

pub returns-clause-picture : goal.returns-clause-picture
returns-clause-picture g c =
    let made = c.advance.ensures in
    let scene = c.advance.new.self.scene in
    let device = (g.A.Array.view c.advance.new.array).device in
    let can : CanRun scene = subst CanRun (sym made.scene) c.left-left.ensures.can_run in
    let end : c.advance.new.self.place.clock ≡ total scene = grind arith in
    c.law_of_pictures.ensures g.A.Array.BITS scene device can.lawful can.solids
    (subst (λ n. IsAt g.A.Array.BITS scene n device) end made.at)
