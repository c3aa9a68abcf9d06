use Rattle.px_state.proofs.Cited.{ap, arith, lt_true, row_bit, ◌*◌, ◌+◌, ◌<◌, ◌^◌, ◌∙◌, ◌≡◌}
use Rattle.px_state.proofs.PlaneLemmas.{in_one_word, moved_bit}
use Rattle.px_state.proofs.plane.column_word.Goals as goal

pub returns-then-x-power : goal.returns-then-x-power
returns-then-x-power c = λ j within low.
    let shape = c.args.shape.now in
    let row = c.args.row.now in
    let x = c.args.from + c.args.x in
    let w = c.args.w in
    let column : c.args.x < 2 ^ shape.nx = rw c.power.ensures at c.if-x-power.true in
    let whole : x * 2 ^ shape.ny + 64 * w + j ≡ x * 2 ^ shape.ny + (64 * w + j) = omega arith in
    rw (c.power-then-x-power.ensures, lt_true c.args.x (2 ^ shape.nx) column)
    (moved_bit row (x * 2 ^ shape.ny + 64 * w) j (in_one_word shape.ny x w j low within) ∙ ap (row_bit row) whole)
