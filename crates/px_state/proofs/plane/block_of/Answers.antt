use Rattle.px_state.proofs.Cited.{arith, length-set, nat_bit, placed, ℕ, ◌*◌, ◌+◌, ◌<◌, ◌^◌}
use Rattle.px_state.proofs.Cited.{◌∙◌, ◌≡◌}
use Rattle.px_state.proofs.PlaneLemmas.{more_words}
use Rattle.px_state.proofs.plane.block_of.Goals as goal

pub loop-i-preserved : goal.loop-i-preserved
loop-i-preserved c =
    let shape = c.args.shape.now in
    let before = c.loop-i.invariant in
    record {
      done = λ i j low bit in_grid.
          more_words (λ i word. (j : ℕ) → j < 64 → 64 * c.args.w + j < 2 ^ shape.ny
          → nat_bit word j ≡ placed shape c.args.row.now c.args.from (64 * c.args.c + i) (64 * c.args.w + j))
          c.loop-i.block c.loop-i.i c.column_word.result (omega (arith, before.same, c.loop-i-test.true))
          (λ i low j bit in_grid. before.done i j low bit in_grid) c.column_word.ensures i low j bit in_grid;
      same = length-set c.loop-i.block c.loop-i.i c.column_word.result ∙ before.same;
    }
