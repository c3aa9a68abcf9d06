use Rattle.px_state.proofs.Cited.{after_clocks, arith, common_steps, HoldsPixelsAndNodes, map, State, subst, take_all}
use Rattle.px_state.proofs.ClockedLemmas.{but_leaves, has_words, none_stray, room_is, with_leaves}
use Rattle.px_state.proofs.ShapeLemmas.{kept_both}
use Rattle.px_state.proofs.PackingLemmas.{micro_only}
use Rattle.px_state.specs.Packing.{micro_in}
use Rattle.px_state.proofs.clocks.clock_all.Goals as goal

pub clock-requires-clause-place : goal.clock-requires-clause-place
clock-requires-clause-place c = grind (arith, common_steps, none_stray, micro_only)

pub returns-clause-clocked : goal.returns-clause-clocked
returns-clause-clocked c = λ s held.
    let shape = c.args.shape.now in
    let old = c.args.words.now in
    let new = c.write_leaves.new.words in
    let micros = c.args.micros.now in
    let before = c.loop-word.invariant in
    let leaves = c.write_leaves.ensures in
    let end : State = after_clocks (map micro_in micros) s in
    let inner : HoldsPixelsAndNodes shape end c.loop-word.words =
    subst (λ ms. HoldsPixelsAndNodes shape (after_clocks (map micro_in ms) s) c.loop-word.words)
    (take_all c.loop-word.word-index micros c.loop-word-test.false) (before.clocked s (but_leaves shape s old held)) in
    has_words shape.bits shape.nx shape.ny end old new
    (with_leaves shape end c.loop-word.words new inner leaves.kept
    (leaves.leaves end.tree (record { columns = inner.grid.columns; rows = inner.grid.rows }) inner.nodes))
    (rw (room_is shape) (kept_both before.kept leaves.kept (omega arith)))
