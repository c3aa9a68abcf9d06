use Rattle.px_num.proofs.Basics.{◌≡◌, ◌+ℤ◌, ◌||◌, ℤ, pos, ap, ◌∙◌, arith, inl, inr, w64, to_z, of_z, is_negative, lt_z}
use Rattle.px_num.proofs.Basics.{cases_eq, ints}
use Rattle.px_num.proofs.TruthLaws.{or_false}
use Rattle.px_rows.proofs.SignLemmas.{of_sum}
use Rattle.px_rows.proofs.sides.signs_of_pixels.Goals as goal

pub loop-j-preserved : goal.loop-j-preserved
loop-j-preserved c =
    let j = c.loop-j.j in
    let i = c.loop-j.invariant in
    let o = c.offset_of.result in
    let b = to_z w64 (of_z w64 c.args.base) in
    let s = to_z w64 (of_z w64 (to_z w64 (of_z w64 o) +ℤ b)) in
    let size = c.offset_of.ensures.size in
    let sum : s ≡ o +ℤ b = omega (arith, ints, size.0, size.1, c.requires.base.0, c.requires.base.1) in
    let bit = c.with_bit-word.ensures.here ∙ ap (λ w. lt_z s (pos 0) || w) (i.rest j (omega arith))
    ∙ or_false (lt_z s (pos 0))
    ∙ of_sum o b s sum ∙ ap (λ (v : ℤ). is_negative (v +ℤ b)) c.offset_of.ensures.value in
    record {
      done = λ k less. elim (cases_eq k j) [
        | inl same ↦ rw same bit
        | inr other ↦ c.with_bit-word.ensures.beside k other ∙ i.done k (omega (arith, less, other))
      ];
      rest = grind arith;
    }
