use Rattle.px_num.proofs.Basics.{arith, common_steps}
use Rattle.px_commands.proofs.RunLaws.{rest_behind, took_most}
use Rattle.px_commands.proofs.steps.read_text.Goals as goal

pub returns-clause-rest : goal.returns-clause-rest
returns-clause-rest g c = grind (arith, common_steps, rest_behind)

pub returns-clause-most : goal.returns-clause-most
returns-clause-most g c = grind (arith, took_most)
