use Rattle.px_num.proofs.Basics.{[], ap}
use Rattle.px_show.specs.Expressions.{whole}
use Rattle.px_show.proofs.ExpressionLemmas.{reads, was_written}
use Rattle.px_show.proofs.show.expression_law.Goals as goal

pub returns-clause-written : goal.returns-clause-written
returns-clause-written c = was_written
