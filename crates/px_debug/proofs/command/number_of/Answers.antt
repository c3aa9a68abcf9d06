use Rattle.px_num.proofs.Basics.{◌<◌, ◌^◌, IfSome, subst, sym}
use Rattle.px_text.proofs.LineLaws.{size_low}
use Rattle.px_debug.proofs.command.number_of.Goals as goal

pub returns-then-word-le-MOST_DIGITS-clause-small : goal.returns-then-word-le-MOST_DIGITS-clause-small
returns-then-word-le-MOST_DIGITS-clause-small c =
    subst (λ size. IfSome size (λ n. n < 10 ^ 18)) (sym c.size_of.ensures)
    (size_low c.args.word.now 18 c.if-word-le-MOST_DIGITS.true)
