use Rattle.px_num.proofs.Basics.{nat_tests, common_steps, ◌≡◌, ℕ, suc, pos, ◌+◌, ◌<◌, ◌∙◌, arith, inl, inr}
use Rattle.px_num.proofs.Basics.{if◌then◌else◌, get_or-set_other, get_or-set_same, length-set, bit_and, w64, to_z}
use Rattle.px_num.proofs.Basics.{of_z, cases_lt}
use Rattle.px_rows.proofs.LaneWords.{and_at, bit_of, nat_bit}
use Rattle.px_rows.proofs.LaneLemmas.{addend_bit, sum_in_lane}
use Rattle.px_rows.proofs.lanes.add_constant.Goals as goal

pub loop-t-preserved : goal.loop-t-preserved
loop-t-preserved c =
    let l = c.loop-t in
    let i = l.invariant in
    let t = l.t in
    let k = to_z w64 (of_z w64 c.args.k) in
    let mask = c.args.mask in
    let addend = bit_and mask c.all_of.result in
    let second : (j : ℕ) → j < 64 → nat_bit addend j ≡ bit_of (if nat_bit mask j then k else pos 0) t =
    grind (arith, and_at, addend_bit) in
    let next : t + 1 ≡ suc t = omega arith in
    record {
      done = λ s j u low within h. elim (cases_lt s t) [
        | inl before ↦
            grind (arith, get_or-set_other)
        | inr past ↦
            grind (arith, nat_tests, common_steps, get_or-set_same, sum_in_lane)
      ];
      rest = grind (arith, get_or-set_other);
      carried = grind arith;
      whole = length-set l.words t _ ∙ i.whole;
    }
