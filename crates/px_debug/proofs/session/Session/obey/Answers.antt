use Rattle.px_num.proofs.Basics.{◌∙◌, ap, refl, sym}
use Rattle.px_debug.specs.Moves.{quarter_of}
use Rattle.px_debug.proofs.FittingLemmas.{fits_session}
use Rattle.px_debug.proofs.session.Session.obey.Goals as goal

pub returns-clause-fits : goal.returns-clause-fits
returns-clause-fits g c =
    let o = c.obey.ensures in
    fits_session g.A.Array.BITS c.obey.new.self _ (g.A.Array.view c.obey.new.array) refl refl
    (o.same.quarter ∙ (c.self.invariant.quarter ∙ ap quarter_of (sym o.same.scene))) c.requires.fits.few o.course
