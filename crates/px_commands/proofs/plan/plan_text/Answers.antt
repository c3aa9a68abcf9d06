use Rattle.std.proofs.Common.{arith}
use Rattle.std.proofs.lemmas.Grind.{common_steps}
use Rattle.px_commands.proofs.plan.plan_text.Goals as goal

pub loop-product-preserved : goal.loop-product-preserved
loop-product-preserved c = grind (arith, common_steps)

pub returns : goal.returns
returns c = grind (arith, common_steps)
