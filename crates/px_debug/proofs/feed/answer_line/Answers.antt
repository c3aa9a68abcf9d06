use Rattle.px_debug.proofs.FeedingLemmas.{given, same_command}
use Rattle.px_debug.proofs.feed.answer_line.Goals as goal

pub returns-clause-given : goal.returns-clause-given
returns-clause-given g c from lines line kept went =
    let told = c.line.ensures in
    given _ _ from _ _ _ _ _ _ _ lines line (same_command _ line kept) went told.session told.work told.ok told.going
    told.err
