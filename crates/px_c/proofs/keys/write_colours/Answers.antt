use Rattle.px_num.proofs.Basics.{◌+◌, ◌*◌, ◌∙◌, arith, common_steps, subst}
use Rattle.px_model.specs.Scenes.{colour_in_scene}
use Rattle.px_frame.proofs.RowLaws.{other_row}
use Rattle.px_frame.specs.Picture.{colour_at}
use Rattle.px_c.specs.Buffers.{HasColour}
use Rattle.px_c.proofs.BufferLemmas.{colour_kept, face_in_strip, place_above, rows_more, rows_stored}
use Rattle.px_c.proofs.keys.write_colours.Goals as goal

pub enter_row-requires-clause-numbers : goal.enter_row-requires-clause-numbers
enter_row-requires-clause-numbers g c =
    rw (c.width.ensures.value) (rows_stored _ c.args.scene.now _ _ c.laws_of_scenes.ensures.scene c.requires.drawn
    (grind (arith, common_steps)) (grind (arith, common_steps)) (grind (arith, common_steps)) c.loop-y.y
    (omega (arith, c.loop-y-test.true, c.height-y-end.ensures.value)))

pub loop-y-preserved : goal.loop-y-preserved
loop-y-preserved g c =
    let scene = c.args.scene.now in
    let y = c.loop-y.y in
    let held = rw (c.width.ensures.value) at c.enter_row.ensures in
    record {
      strip = λ further. other_row _ c.b_number-faces.result _ scene.width y (y + 1) (omega (arith, further)) held;
      rows = rows_more (λ x row. HasColour c.write_coloured_row.new.rgb (3 * (row * scene.width + x))
          (colour_at scene x row)) scene.width y
          (λ x row left higher. let place = place_above x row y scene.width left higher in
          colour_kept c.loop-y.rgb _ (3 * (row * scene.width + x)) (3 * (y * scene.width)) (colour_at scene x row)
          c.write_coloured_row.ensures.above (omega (arith, place)) (c.loop-y.invariant.rows x row left higher))
          (λ x left. subst (λ n. HasColour c.write_coloured_row.new.rgb (3 * (y * scene.width + x))
          (colour_in_scene scene.solids n)) (face_in_strip _ scene _ _ x y c.laws_of_scenes.ensures.scene
          c.requires.drawn (rw (c.b_number-faces.ensures.field, c.requires.layout) at held) left
          (omega (arith, c.loop-y-test.true, c.height-y-end.ensures.value))) (c.write_coloured_row.ensures.row x left));
      below = λ i past. c.write_coloured_row.ensures.below i (omega (arith, past))
          ∙ c.loop-y.invariant.below i (omega (arith, past));
    }
