use Rattle.px_num.proofs.Basics.{◌<◌, ◌^◌, ◌∙◌, sym, false, nat_lt, arith, ◌≡◌, nat_tests}
use Rattle.px_num.proofs.BitLaws.{nat_bit_above}
use Rattle.px_num.proofs.bits.bit_of_word.Goals as goal

pub returns-else-t-lt64 : goal.returns-else-t-lt64
returns-else-t-lt64 c =
    let past : nat_lt c.args.t 64 ≡ false = grind (arith, nat_tests) in
    let within : c.args.word < 2 ^ 64 = omega arith in
    past ∙ sym (nat_bit_above c.args.word 64 c.args.t within c.if-t-lt64.false)
