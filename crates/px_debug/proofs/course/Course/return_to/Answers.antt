use Rattle.px_num.proofs.Basics.{◌≡◌, ◌+◌, ◌*◌, ap, arith, refl}
use Rattle.px_debug.proofs.Words.{array_after, JobView}
use Rattle.px_debug.proofs.MarkingLemmas.{marked_at, marks_front, same_device}
use Rattle.px_debug.proofs.course.Course.return_to.Goals as goal

pub restore-requires-clause-is_open : goal.restore-requires-clause-is_open
restore-requires-clause-is_open g c =
    (c.law_of_grids.ensures.covers g.A.Array.BITS _ _ _ c.now-now.ensures.can_run.lawful c.requires.course.at).is_open

pub returns-clause-course : goal.returns-clause-course
returns-clause-course g c =
    let old = c.args.self.now in
    let k = c.args.checkpoint in
    let course = c.requires.course in
    let q = old.quarter in
    let scene : c.return_to.new.self.scene ≡ old.job.scene = ap (λ (j : JobView). j.scene) c.return_to.ensures in
    let clock : c.return_to.new.self.place.clock ≡ k * q = grind arith in
    let device : (g.A.Array.view c.restore.new.self).device ≡ array_after g.A.Array.BITS old.job.scene (k * q) =
    same_device _ _ _ c.restore.ensures.device (course.keeps.kept k c.requires.passed) in
    record {
      at = rw (scene, clock) (record { enough = course.at.enough; reached = device });
      marks = rw scene (marks_front old.job.scene q (k + 1) old.passed old.places course.marks (omega arith)
          (omega (arith, c.requires.passed)));
      marked = rw clock (marked_at q k (k * q) course.marks.step refl);
      keeps = rw (scene, c.restore.ensures.slots) (record {
        kept = λ n low. course.keeps.kept n (omega (arith, low, c.requires.passed));
        only = course.keeps.only;
      });
    }
