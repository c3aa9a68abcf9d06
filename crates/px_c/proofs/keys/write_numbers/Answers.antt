use Rattle.px_num.proofs.Basics.{◌≡◌, ◌+◌, ◌*◌, ◌<◌, ◌∙◌, arith, get_or, refl}
use Rattle.px_array.specs.Arrays.{pixel_of}
use Rattle.px_macro.specs.Fields.{number_in}
use Rattle.px_frame.proofs.RowLaws.{other_row}
use Rattle.px_c.proofs.BufferLemmas.{place_above, rows_more}
use Rattle.px_c.proofs.keys.write_numbers.Goals as goal

pub loop-y-preserved : goal.loop-y-preserved
loop-y-preserved g c =
    let state = (g.A.Array.view c.args.array.now).device.state in
    let width = c.width-width.result in
    let y = c.loop-y.y in
    let above : y < c.args.scene.now.height = omega (arith, c.loop-y-test.true, c.height-y-end.ensures.value) in
    record {
      strip = λ further. other_row _ c.args.field state width y (y + 1) (omega (arith, further)) c.enter_row.ensures;
      rows = rows_more (λ x row. get_or c.write_row.new.numbers (row * width + x) 0
          ≡ number_in c.args.field (pixel_of state x row).memory) width y
          (λ x row left higher. c.write_row.ensures.above (row * width + x) (place_above x row y width left higher)
          ∙ c.loop-y.invariant.rows x row left higher)
          (λ x left. c.write_row.ensures.row x left
          ∙ c.enter_row.ensures.each x y left refl (c.requires.stored y above).row);
      below = λ i past. c.write_row.ensures.below i (omega (arith, past))
          ∙ c.loop-y.invariant.below i (omega (arith, past));
    }
