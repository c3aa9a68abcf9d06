use Rattle.px_num.proofs.Basics.{◌∙◌, ap, rules}
use Rattle.px_num.specs.Forms.{value_at}
use Rattle.px_num.proofs.FormLaws.{value_at-plus}
use Rattle.px_num.proofs.linear.Linear.plus.Goals as goal

pub returns-clause-value : goal.returns-clause-value
returns-clause-value c x y = ap (λ p. value_at p x y) (search rules) ∙ value_at-plus c.args.self.now c.args.n x y
