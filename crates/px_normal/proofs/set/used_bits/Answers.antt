use Rattle.px_num.proofs.Basics.{◌<◌, ◌^◌, arith, subst}
use Rattle.std.proofs.lemmas.Nat.{leading_length}
use Rattle.px_normal.proofs.set.used_bits.Goals as goal

pub returns-clause-past : goal.returns-clause-past
returns-clause-past c =
    let length = leading_length 64 c.args.word c.ranges.word.fits in
    subst (λ bits. c.args.word < 2 ^ bits) (omega (arith, length.1)) length.2
