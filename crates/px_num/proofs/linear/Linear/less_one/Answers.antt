use Rattle.px_num.proofs.Basics.{◌∙◌, ap, rules}
use Rattle.px_num.specs.Forms.{value_at}
use Rattle.px_num.proofs.FormLaws.{value_at-less_one}
use Rattle.px_num.proofs.linear.Linear.less_one.Goals as goal

pub returns-clause-value : goal.returns-clause-value
returns-clause-value c x y = ap (λ p. value_at p x y) (search rules) ∙ value_at-less_one c.args.self.now x y
