use Rattle.px_num.proofs.Basics.{arith, to_z-of_z}
use Rattle.px_rows.proofs.values.word_values.Goals as goal

pub returns-clause-value : goal.returns-clause-value
returns-clause-value c j small = grind (arith, to_z-of_z)
