use Rattle.px_debug.proofs.session.Session.new.Goals as goal

pub save-requires-clause-is_open : goal.save-requires-clause-is_open
save-requires-clause-is_open g c =
    (c.law_of_grids.ensures.covers g.A.Array.BITS _ _ _ c.now-now.ensures.can_run.lawful c.requires.at).is_open
