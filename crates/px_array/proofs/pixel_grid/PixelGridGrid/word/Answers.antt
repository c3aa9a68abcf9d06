use Rattle.px_num.proofs.Basics.{◌≢◌, ◌<◌, ap, eqb, sym, ◌∙◌, arith, below_more, w64, bit_at_set_same, bit_at_set_other}
use Rattle.px_array.proofs.pixel_grid.PixelGridGrid.word.Goals.{then-bit_of_word, else-bit_of_word}
use Rattle.px_array.proofs.pixel_grid.PixelGridGrid.word.Goals as goal

pub loop-i-preserved : goal.loop-i-preserved
loop-i-preserved g c = elim c.if-bit_of_word.branch [
  | then-bit_of_word w ↦
      let within : c.loop-i.i < 64 = omega arith in
      rw w.word-is (record {
        done = below_more _ _ (λ j h. let ne : j ≢ c.loop-i.i = omega arith in
            ap (λ b. eqb b 1) (bit_at_set_other w64 _ _ within j ne) ∙ c.loop-i.invariant.done j h)
            (ap (λ b. eqb b 1) (bit_at_set_same w64 _ _ within) ∙ (sym w.if-bit_of_word.true ∙ c.bit_of_word.ensures));
        rest = λ j l h. let ne : j ≢ c.loop-i.i = omega arith in
            ap (λ b. eqb b 1) (bit_at_set_other w64 _ _ within j ne) ∙ c.loop-i.invariant.rest j (omega arith) h;
      })
  | else-bit_of_word w ↦
      grind (arith, below_more)
]
