use Rattle.px_state.proofs.Cited.{rules}
use Rattle.px_state.proofs.SceneLemmas.{next_at}
use Rattle.px_state.proofs.running.next_at.Goals as goal

pub returns-in-Some-clause-some : goal.returns-in-Some-clause-some
returns-in-Some-clause-some c = search (rules, next_at)
