use Rattle.px_debug.proofs.FeedingLemmas.{quit_ends}
use Rattle.px_debug.proofs.law.laws_of_sessions.Goals as goal

pub returns-clause-quit : goal.returns-clause-quit
returns-clause-quit c bits s xs ys quits = quit_ends bits s xs ys quits
