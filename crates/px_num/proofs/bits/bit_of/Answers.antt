use Rattle.px_num.proofs.Basics.{arith, ◌≡◌, not, rules}
use Rattle.px_num.specs.Bits.{bit_of}
use Rattle.px_num.proofs.BitLaws.{modulo_bit, sign_bit}
use Rattle.px_num.proofs.bits.bit_of.Goals as goal

pub returns-then-v-ge0 : goal.returns-then-v-ge0
returns-then-v-ge0 c =
    let bit : c.bit_of_word.result ≡ bit_of c.args.v c.args.t = search rules in
    grind (arith, modulo_bit, sign_bit)

pub returns-else-v-ge0 : goal.returns-else-v-ge0
returns-else-v-ge0 c =
    let bit : not c.bit_of_word-else-v-ge0.result ≡ bit_of c.args.v c.args.t = search rules in
    grind (arith, modulo_bit, sign_bit)
