use Rattle.px_num.proofs.Basics.{Some, ap}
use Rattle.px_io.specs.Reports.{SinkState}
use Rattle.px_c.proofs.RunLemmas.{comes_whole}
use Rattle.px_c.proofs.run.output_on.Goals as goal

pub returns-in-Ok-clause-ok : goal.returns-in-Ok-clause-ok
returns-in-Ok-clause-ok g c =
    comes_whole _ _ c.in-Ok.field-0 _ _ _ _ c.in-Ok.ensures.performs (ap Some c.new.ensures)
    (ap (λ (o : SinkState). o.written) c.new-out.ensures) c.into_bytes.ensures
