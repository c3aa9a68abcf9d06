use Rattle.px_state.proofs.Cited.{arith, cases_lt, get_or-set_other, get_or-set_same, inl, inr, length, length-set}
use Rattle.px_state.proofs.Cited.{mod-lt, row_words, ◌%◌, ◌*◌, ◌+◌, ◌/◌, ◌<◌, ◌^◌, ◌∙◌, ◌≡◌, ◌≢◌}
use Rattle.px_state.proofs.PlaneLemmas.{some_words}
use Rattle.px_state.proofs.ShapeLemmas.{plane_end}
use Rattle.px_state.proofs.plane.put_block.Goals as goal

pub loop-y-preserved : goal.loop-y-preserved
loop-y-preserved c =
    let shape = c.args.shape.now in
    let each = row_words shape.nx in
    let y = c.loop-y.y in
    let b = c.args.b in
    let at = c.args.first + (y * each + b % each) in
    let words = c.loop-y.words in
    let before = c.loop-y.invariant in
    let some = some_words shape.nx in
    let row : y < 2 ^ shape.ny = omega (arith, c.power.ensures) in
    let by_code : y / 64 ≡ b / c.row_words-each.result = omega arith in
    let here : y / 64 ≡ b / each = rw c.row_words-each.ensures.words at by_code in
    let within : at < length words =
    omega (arith, c.requires, before.same, plane_end y (2 ^ shape.ny) each row, mod-lt b some) in
    rw c.row_words-each.ensures.words (record {
      put = λ v below same. elim (cases_lt v y) [
        | inl early ↦
            let end = plane_end v y each early in
            let other : c.args.first + (v * each + b % each) ≢ at = omega (arith, end, some) in
            get_or-set_other words at (c.args.first + (v * each + b % each)) _ 0 other ∙ before.put v early same
        | inr late ↦
            let this : v ≡ y = omega (arith, below, late) in
            rw this (get_or-set_same words at _ 0 within)
      ];
      others = λ k other. get_or-set_other words at k _ 0 (other y row here) ∙ before.others k other;
      same = length-set words at _ ∙ before.same;
    })
