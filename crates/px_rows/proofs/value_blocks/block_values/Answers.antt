use Rattle.px_num.proofs.Basics.{◌≡◌, ◌∙◌, ◌+◌, ◌*◌, ◌/◌, ◌%◌, ◌<◌, arith, inl, inr, cases_lt}
use Rattle.px_rows.proofs.value_blocks.block_values.Goals as goal

pub loop-k-preserved : goal.loop-k-preserved
loop-k-preserved c =
    let k = c.loop-k.k in
    let i = c.loop-k.invariant in
    let put = c.put_word_values.ensures.put in
    record {
      done = λ t p low within before. elim (cases_lt (p / 64) k) [
        | inl done ↦
            grind arith
        | inr past ↦
            let here : p / 64 ≡ k = omega arith in
            let small : p % 64 < 64 = omega arith in
            let whole : 64 * k + p % 64 ≡ p = omega arith in
            rw here (rw whole at (put.here t (p % 64) (omega (arith, low, i.whole)) small))
      ];
      whole = c.put_word_values.ensures.words ∙ i.whole;
    }
