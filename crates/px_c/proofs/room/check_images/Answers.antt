use Rattle.px_c.proofs.RoomLemmas.{refined_done, refined_stops}
use Rattle.px_c.proofs.room.check_images.Goals as goal

pub returns-in-Refine-clause-ok : goal.returns-in-Refine-clause-ok
returns-in-Refine-clause-ok c =
    refined_done _ c.args.work _ _ _ _ c.in-Refine.is c.doublings.ensures.value c.check_refined.ensures.ok

pub returns-in-Refine-clause-err : goal.returns-in-Refine-clause-err
returns-in-Refine-clause-err c =
    refined_stops _ c.args.work _ _ _ _ c.in-Refine.is c.doublings.ensures.value c.check_refined.ensures.err
