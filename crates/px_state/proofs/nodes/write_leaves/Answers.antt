use Rattle.px_state.proofs.Cited.{ap, arith, common_steps, get_or, get_or-append_right, get_or_append_left}
use Rattle.px_state.proofs.Cited.{IsNodeWord, leaves_at, length, nat_bit, nodes_at, pow-add, row_words, sym, ℕ, ◌*◌}
use Rattle.px_state.proofs.Cited.{◌+◌, ◌-◌, ◌<◌, ◌^◌, ◌∙◌, ◌≡◌}
use Rattle.px_state.proofs.NodeLemmas.{leaf_law}
use Rattle.px_state.proofs.ShapeLemmas.{plane_end}
use Rattle.px_state.proofs.nodes.write_leaves.Goals as goal

pub write_plane-requires-clause-row : goal.write_plane-requires-clause-row
write_plane-requires-clause-row c = grind (arith, common_steps, pow-add)

pub returns-clause-leaves : goal.returns-clause-leaves
returns-clause-leaves c = λ tree size held y k i row low bit.
    let shape = c.args.shape.now in
    let cut = c.split_at_mut-planes in
    let new = c.write_plane.new.words in
    let nodes = cut.result.1.now in
    let each = row_words shape.nx in
    let place = leaves_at shape + (y * each + k) in
    let long : length cut.result.0.now ≡ nodes_at shape = cut.ensures.front_len ∙ c.start.ensures.start in
    let inside : place < length new =
    omega (arith, long, c.write_plane.ensures.kept.length, shape.plane_is, low, plane_end y (2 ^ shape.ny) each row) in
    let outputs : (k : ℕ) → k < shape.nodes → IsNodeWord (λ n. n.output) tree k (get_or nodes k 0) =
    λ k within i bit.
    let back : nodes_at shape + k - nodes_at shape ≡ k = omega arith in
    let read : get_or c.args.words.now (nodes_at shape + k) 0 ≡ get_or nodes k 0 =
    ap (λ ws. get_or ws (nodes_at shape + k) 0) cut.ensures.value
    ∙ (get_or-append_right cut.result.0.now nodes (nodes_at shape) (nodes_at shape + k) 0 long (omega arith)
    ∙ ap (λ k. get_or nodes k 0) back) in
    ap (λ w. nat_bit w i) (sym read) ∙ held.output k within i bit in
    ap (λ w. nat_bit w i) (get_or_append_left new nodes 0 place inside)
    ∙ ((rw (c.start-first.ensures.start, c.power.ensures) at c.write_plane.ensures.plane) y k i row low bit
    ∙ leaf_law shape tree size nodes outputs (64 * k + i) y row)
