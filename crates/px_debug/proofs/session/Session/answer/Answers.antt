use Rattle.px_num.proofs.Basics.{subst, sym}
use Rattle.px_debug.proofs.Words.{IsAt, SessionView}
use Rattle.px_debug.proofs.session.Session.answer.Goals as goal

pub pixel_answer-requires-clause-grid : goal.pixel_answer-requires-clause-grid
pixel_answer-requires-clause-grid g c =
    (c.law_of_sizes.ensures g.A.Array.BITS _ _ _ c.now-now.ensures.can_run.lawful
    (subst (λ (v : SessionView). IsAt g.A.Array.BITS v.scene v.now (g.A.Array.view c.args.array.now).device)
    (sym c.self.view_is) c.requires.fits.at)).grid

pub field_answer-requires-clause-grid : goal.field_answer-requires-clause-grid
field_answer-requires-clause-grid g c =
    (c.law_of_sizes.ensures g.A.Array.BITS _ _ _ c.now-now.ensures.can_run.lawful
    (subst (λ (v : SessionView). IsAt g.A.Array.BITS v.scene v.now (g.A.Array.view c.args.array.now).device)
    (sym c.self.view_is) c.requires.fits.at)).grid

pub tree_answer-requires : goal.tree_answer-requires
tree_answer-requires g c = record {
  grid = (c.law_of_sizes.ensures g.A.Array.BITS _ _ _ c.now-now.ensures.can_run.lawful
      (subst (λ (v : SessionView). IsAt g.A.Array.BITS v.scene v.now (g.A.Array.view c.args.array.now).device)
      (sym c.self.view_is) c.requires.fits.at)).grid;
}
