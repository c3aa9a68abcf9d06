use Rattle.px_num.proofs.Basics.{◌∙◌, ap, arith}
use Rattle.px_control.proofs.Words.{columns_of, opened, rows_of}
use Rattle.px_control.proofs.StepLemmas.{at_opened}
use Rattle.px_control.proofs.job.Job.open.Goals as goal

pub returns-clause-at : goal.returns-clause-at
returns-clause-at g c =
    at_opened g.A.Array.BITS c.args.scene.now _ (omega (
      arith,
      c.in_ok-program.ensures.enough,
      c.memory_bits.ensures.within,
    ))
    (c.in-Ok.ensures.ok ∙ ap (λ p. opened g.A.Array.BITS p.0 p.1) c.grid-columns.ensures
    ∙ ap (λ s. opened g.A.Array.BITS (columns_of s) (rows_of s)) c.in_ok-program.ensures.ok)
