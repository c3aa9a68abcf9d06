use Rattle.px_state.proofs.Cited.{ap, arith, get_or, get_or_default, lt_false, nat_bit, refl, ◌%◌, ◌*◌, ◌+◌, ◌/◌, ◌∙◌}
use Rattle.px_state.proofs.Cited.{◌≡◌}
use Rattle.px_state.proofs.NodeLemmas.{parents_root}
use Rattle.px_state.proofs.feeding.parents_of.Goals as goal
use Rattle.px_state.proofs.feeding.parents_of.Goals.{then-w-eq0, else-w-eq0}

pub returns : goal.returns
returns c = λ j within some.
    let both = c.doubled_pair.ensures.first in
    let read : c.index.result.now ≡ get_or c.doubled_pair.result.0 (c.args.w % 2) 0 =
    c.index.ensures ∙ get_or_default c.doubled_pair.result.0 (c.args.w % 2) _ 0 (omega (arith, both.lanes.long)) in
    ap (λ n. nat_bit n j) read ∙ (both.each (c.args.w % 2) j (omega arith) within ∙ elim c.if-w-eq0.branch [
      | then-w-eq0 w ↦
          let bit : 32 * (c.args.w % 2) + j / 2 ≡ j / 2 = omega (arith, w.if-w-eq0.true) in
          let place : 64 * c.args.w + j ≡ j = omega (arith, w.if-w-eq0.true) in
          rw (w.word-is, bit, place) (w.rooted-word.ensures (j / 2) (omega arith)
          ∙ parents_root c.args.word j c.args.c (omega (arith, some, place)) within)
      | else-w-eq0 w ↦ rw (w.word-is, lt_false (64 * c.args.w + j) 4 (omega (arith, w.if-w-eq0.false))) refl
    ])
