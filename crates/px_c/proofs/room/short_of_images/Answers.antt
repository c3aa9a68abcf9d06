use Rattle.px_c.proofs.RoomLemmas.{unread}
use Rattle.px_c.proofs.room.short_of_images.Goals as goal

pub returns-in-Err-clause-answer : goal.returns-in-Err-clause-answer
returns-in-Err-clause-answer c =
    unread c.args.room c.args.work c.args.text.now _ _ _ c.in-Err.ensures.err c.not_served.ensures.answer
