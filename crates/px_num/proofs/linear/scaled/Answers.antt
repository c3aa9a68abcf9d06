use Rattle.px_num.proofs.Basics.{◌^◌, ◌*◌, arith, common_steps, subst, sym}
use Rattle.px_num.specs.Forms.{IsWithin}
use Rattle.px_num.proofs.FormLaws.{times_within}
use Rattle.px_num.proofs.linear.scaled.Goals as goal

pub returns-clause-value : goal.returns-clause-value
returns-clause-value c = grind (arith, common_steps)

pub returns-clause-size : goal.returns-clause-size
returns-clause-size c most below = subst (IsWithin (2 ^ 27 * most)) (sym (returns-clause-value c))
    (times_within c.args.factor c.args.place (2 ^ 27) most c.requires.factor below)
