use Rattle.px_state.proofs.Cited.{ap, arith, bit_at, cases_eq, common_steps, false, inl, inr, nat_bit, PixelState}
use Rattle.px_state.proofs.Cited.{pow-add, row_words, zero_pixel, ◌*◌, ◌+◌, ◌<◌, ◌^◌, ◌∙◌, ◌≡◌}
use Rattle.std.proofs.lemmas.List.{get_or-replicate}
use Rattle.px_state.proofs.RegisterLemmas.{memory_register, placed_register}
use Rattle.px_state.proofs.ShapeLemmas.{kept_both, plane_end}
use Rattle.px_state.proofs.words.write_memory.Goals as goal

pub write_plane-requires-clause-row : goal.write_plane-requires-clause-row
write_plane-requires-clause-row g c = grind (arith, common_steps, pow-add)

pub loop-at-preserved : goal.loop-at-preserved
loop-at-preserved g c =
    let shape = c.args.shape.now in
    let s = c.args.grid.now.state in
    let at = c.loop-at.at in
    let plane = shape.plane in
    let each = row_words shape.nx in
    let before = c.loop-at.invariant in
    let put = c.write_plane.ensures in
    let register = memory_register s at c.row.result.now c.row.ensures.words c.row.ensures.bits in
    let none : bit_at (zero_pixel shape.bits).memory at ≡ false =
    get_or-replicate shape.bits at false false c.loop-at-test.true in
    record {
      done = λ b low y k i row word bit. elim (cases_eq b at) [
        | inl same ↦
            rw same (put.plane y k i row word bit
            ∙ placed_register shape s (λ (p : PixelState). bit_at p.memory at) c.row.result.now c.requires.size none register
            (64 * k + i) y row)
        | inr other ↦
            let early : b < at = omega (arith, low, other) in
            let within : y * each + k < plane =
            omega (arith, shape.plane_is, word, plane_end y (2 ^ shape.ny) each row) in
            ap (λ w. nat_bit w i)
            (put.kept.others (b * plane + (y * each + k)) (inl (omega (arith, within, plane_end b at plane early))))
            ∙ before.done b early y k i row word bit
      ];
      kept = kept_both before.kept put.kept
          (omega (arith, plane_end at shape.bits plane c.loop-at-test.true));
    }
