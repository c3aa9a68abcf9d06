use Rattle.px_asm.proofs.OperatedLemmas.{become_the_same, become_the_same_again}
use Rattle.px_asm.proofs.operating.law_of_renewal.Goals as goal

pub returns-clause-same : goal.returns-clause-same
returns-clause-same c = become_the_same

pub returns-clause-again : goal.returns-clause-again
returns-clause-again c = become_the_same_again
