use Rattle.px_num.proofs.Basics.{◌≡◌, suc, ◌+◌, ◌+ℤ◌, arith, bit_xor}
use Rattle.px_num.specs.Bits.{bit_of, nat_bit}
use Rattle.px_rows.proofs.LaneLemmas.{sum_in_lane}
use Rattle.px_rows.proofs.carries.added_bit.Goals as goal

pub returns-clause-carries : goal.returns-clause-carries
returns-clause-carries c j t u v n small first second third held =
    let carries = c.args.carries.now in
    let next : t + 1 ≡ suc t = omega arith in
    let both : nat_bit (bit_xor (bit_xor c.args.a c.args.b) carries.first) j ≡ bit_of (u +ℤ v) t =
    sum_in_lane c.args.a c.args.b carries.first j t u v first second held.first in
    grind arith
