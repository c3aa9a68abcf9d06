use Rattle.px_frame.proofs.Words.{on_err}
use Rattle.px_frame.proofs.RowLaws.{front_written}
use Rattle.px_frame.proofs.image.make_room.Goals as goal

pub returns-in_err-write_whole-clause-err : goal.returns-in_err-write_whole-clause-err
returns-in_err-write_whole-clause-err g c before bytes but =
    on_err _ (front_written before _ _ _ bytes but (rw c.as_slice.ensures.value at c.in_err-write_whole.ensures.err))
