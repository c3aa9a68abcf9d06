use Rattle.px_num.proofs.Basics.{◌≡◌, refl, arith, agree_below_at}
use Rattle.px_num.specs.Bits.{nat_bit}
use Rattle.px_rows.proofs.values.lane_mask.Goals as goal

pub returns-in-0 : goal.returns-in-0
returns-in-0 c =
    let e : c.args.k ≡ 0 = omega arith in
    rw e (λ j below. agree_below_at (λ k. nat_bit 0xaaaa_aaaa_aaaa_aaaa k) (λ k. nat_bit k 0) 64 j refl below)

pub returns-in-1 : goal.returns-in-1
returns-in-1 c =
    let e : c.args.k ≡ 1 = omega arith in
    rw e (λ j below. agree_below_at (λ k. nat_bit 0xcccc_cccc_cccc_cccc k) (λ k. nat_bit k 1) 64 j refl below)

pub returns-in-2 : goal.returns-in-2
returns-in-2 c =
    let e : c.args.k ≡ 2 = omega arith in
    rw e (λ j below. agree_below_at (λ k. nat_bit 0xf0f0_f0f0_f0f0_f0f0 k) (λ k. nat_bit k 2) 64 j refl below)

pub returns-in-3 : goal.returns-in-3
returns-in-3 c =
    let e : c.args.k ≡ 3 = omega arith in
    rw e (λ j below. agree_below_at (λ k. nat_bit 0xff00_ff00_ff00_ff00 k) (λ k. nat_bit k 3) 64 j refl below)

pub returns-in-4 : goal.returns-in-4
returns-in-4 c =
    let e : c.args.k ≡ 4 = omega arith in
    rw e (λ j below. agree_below_at (λ k. nat_bit 0xffff_0000_ffff_0000 k) (λ k. nat_bit k 4) 64 j refl below)

pub returns-in_default : goal.returns-in_default
returns-in_default c =
    let e : c.args.k ≡ 5 = omega arith in
    rw e (λ j below. agree_below_at (λ k. nat_bit 0xffff_ffff_0000_0000 k) (λ k. nat_bit k 5) 64 j refl below)
