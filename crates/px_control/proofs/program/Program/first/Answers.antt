use Rattle.px_num.proofs.Basics.{rules}
use Rattle.px_control.proofs.PlaceLemmas.{stands_first}
use Rattle.px_control.proofs.program.Program.first.Goals as goal

pub returns-clause-stands : goal.returns-clause-stands
returns-clause-stands c = search (rules, stands_first, c.laws.ensures.good, c.give-current.ensures)
