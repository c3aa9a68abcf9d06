use Rattle.px_num.proofs.Basics.{◌≡◌, suc, arith, ◌+◌, ◌^◌, ◌/◌, ◌%◌, ◌∙◌, ap, get_or, if◌then◌else◌, subst, ◌<◌, sym}
use Rattle.px_frame.proofs.Words.{memory_bit, nat_bit, number_from_bits, power_next}
use Rattle.px_frame.proofs.StripLemmas.{moved_bit, small_more}
use Rattle.px_frame.proofs.strip.eight_numbers.Goals as goal

pub loop-t-preserved : goal.loop-t-preserved
loop-t-preserved g c =
    let state = (g.A.Array.view c.args.array.now).device.state in
    let t = c.loop-t.t in
    let place = c.args.place in
    let bits = c.word-word.result / 2 ^ (place % 64) % 256 in
    let counts = c.loop-t.invariant.value in
    let next : suc t ≡ t + 1 = omega arith in
    record {
      numbers = λ j low within. c.add_bits.ensures j low
          ∙ ap (λ v. get_or c.loop-t.numbers j 0 + (if nat_bit bits j then v else 0)) counts
          ∙ (ap (λ n. n + (if nat_bit bits j then 2 ^ t else 0)) (c.loop-t.invariant.numbers j low within)
          ∙ ap (λ b. number_from_bits (λ s. memory_bit state (c.args.field.at + s) (place + j)) t
          + (if b then 2 ^ t else 0))
          (moved_bit state (c.args.field.at + t) place c.word-word.result j c.word-word.ensures low within)
          ∙ ap (number_from_bits (λ s. memory_bit state (c.args.field.at + s) (place + j))) next);
      small = λ j low. subst (λ n. n < 2 ^ (t + 1)) (sym (rw counts at c.add_bits.ensures j low))
          (small_more (nat_bit bits j) _ t (c.loop-t.invariant.small j low));
      value = omega (arith, counts, power_next t);
    }
