use Rattle.px_io.proofs.ToldLaws.{front_all, on_err_by}
use Rattle.px_commands.proofs.steps.write_finished.Goals as goal

pub returns-clause-err : goal.returns-clause-err
returns-clause-err g c =
    on_err_by _ c.finish.ensures.err (front_all _ _ _ _ c.in_ok-write_whole.ensures.ok c.finish.ensures.bytes)
