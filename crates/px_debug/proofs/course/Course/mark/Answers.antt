use Rattle.px_num.proofs.Basics.{◌≡◌, ◌*◌, ◌∙◌, ap, arith, subst, sym}
use Rattle.px_debug.proofs.Words.{IsAt, Place}
use Rattle.px_debug.proofs.MarkingLemmas.{marked_at, marks_more, slots_more}
use Rattle.px_debug.proofs.course.Course.mark.Goals as goal

pub save-requires-clause-is_open : goal.save-requires-clause-is_open
save-requires-clause-is_open g c =
    (c.law_of_grids.ensures.covers g.A.Array.BITS _ _ _ c.now.ensures.can_run.lawful c.requires.course.at).is_open

pub returns-then-is_due-clause-course : goal.returns-then-is_due-clause-course
returns-then-is_due-clause-course g c =
    let old = c.args.self.now in
    let count = old.passed in
    let course = c.requires.course in
    let due = rw c.if-is_due.true at c.is_due.ensures in
    let now : old.job.place.clock ≡ count * old.quarter = sym c.now.ensures.clock ∙ due.1 in
    let place : c.place.result.clock ≡ count * old.quarter = ap (λ (p : Place). p.clock) c.place.ensures.value ∙ now in
    let here : IsAt g.A.Array.BITS old.job.scene (count * old.quarter) (g.A.Array.view c.args.array.now).device =
    subst (λ n. IsAt g.A.Array.BITS old.job.scene n (g.A.Array.view c.args.array.now).device) now course.at in
    record {
      at = rw c.save.ensures.device course.at;
      marks = marks_more old.job.scene old.quarter count old.places c.place.result course.marks due.0
          c.place.ensures.stands place;
      marked = marked_at old.quarter count old.job.place.clock course.marks.step now;
      keeps = rw c.save.ensures.slots
          (slots_more g.A.Array.BITS old.job.scene old.quarter count (g.A.Array.view c.args.array.now).device
          (g.A.Array.view c.args.array.now).slots
          course.keeps (omega (arith, due.0, c.save.ensures.four)) here);
    }
