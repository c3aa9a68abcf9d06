use Rattle.px_num.proofs.Basics.{◌≡◌, ◌+◌, ◌-◌, ◌^◌, ◌<◌, ℕ, List, [], ◌∙◌, ap, sym, arith, flat_map, range_with_len}
use Rattle.px_listing.proofs.Words.{append-nil, bits_of, on_err, pixel_of}
use Rattle.px_listing.proofs.PieceLaws.{err_cut, ok_flushed, puts_both, puts_cut}
use Rattle.px_listing.proofs.RowLaws.{made_cut, made_more}
use Rattle.px_listing.proofs.Words.{row_lines}
use Rattle.px_listing.proofs.memory.write_memory.Goals as goal

pub returns-in_err-put_row-clause-err : goal.returns-in_err-put_row-clause-err
returns-in_err-put_row-clause-err g c =
    let state = (g.A.Array.view c.args.array.now).device.state in
    let f : ℕ → List ℕ = row_lines g.A.Array.BITS (2 ^ state.tree.nx) (λ x y. bits_of (pixel_of state x y)) in
    let y = c.loop-y.y in
    let columns : c.size-nx.result.0 ≡ state.tree.nx = ap (λ s. s.0) c.size-nx.ensures.size in
    let rows : c.size-nx.result.1 ≡ state.tree.ny = ap (λ s. s.1) c.size-nx.ensures.size in
    let end : c.power-y-end.result ≡ 2 ^ state.tree.ny = c.power-y-end.ensures ∙ ap (λ n. 2 ^ n) rows in
    let within : y < 2 ^ state.tree.ny = omega (arith, end, c.loop-y-test.true) in
    let row = rw (c.power.ensures, columns) at c.in_err-put_row.ensures.err in
    on_err _ (puts_cut _ _ _ [] _ _ (f y) (flat_map f (range_with_len (y + 1) (2 ^ state.tree.ny - (y + 1)))) _
    (made_cut f y (2 ^ state.tree.ny) within) (rw columns at c.loop-y.invariant.put) row)

pub loop-y-preserved : goal.loop-y-preserved
loop-y-preserved g c =
    let state = (g.A.Array.view c.args.array.now).device.state in
    let f : ℕ → List ℕ = row_lines g.A.Array.BITS (2 ^ c.size-nx.result.0) (λ x y. bits_of (pixel_of state x y)) in
    let row = rw c.power.ensures at c.in_ok-put_row.ensures.ok in
    record {
      put = rw (made_more f c.loop-y.y) at (puts_both _ _ _ [] _ _ _ _ c.loop-y.invariant.put row);
      calm = c.in_ok-put_row.ensures.cause.calm ∙ c.loop-y.invariant.calm;
    }

pub returns-clause-ok : goal.returns-clause-ok
returns-clause-ok g c =
    let state = (g.A.Array.view c.args.array.now).device.state in
    let f : ℕ → List ℕ = row_lines g.A.Array.BITS (2 ^ state.tree.nx) (λ x y. bits_of (pixel_of state x y)) in
    let columns : c.size-nx.result.0 ≡ state.tree.nx = ap (λ s. s.0) c.size-nx.ensures.size in
    let rows : c.size-nx.result.1 ≡ state.tree.ny = ap (λ s. s.1) c.size-nx.ensures.size in
    let end : c.power-y-end.result ≡ 2 ^ state.tree.ny = c.power-y-end.ensures ∙ ap (λ n. 2 ^ n) rows in
    let all : c.loop-y.y ≡ 2 ^ state.tree.ny = omega (arith, end, c.loop-y-test.false, c.loop-y.auto.y-end) in
    let put = rw (columns, all) at c.loop-y.invariant.put in
    ok_flushed _ _ _ _ _ _ _ put c.flush.ensures.empty c.flush.ensures.ok

pub returns-clause-err : goal.returns-clause-err
returns-clause-err g c =
    let state = (g.A.Array.view c.args.array.now).device.state in
    let f : ℕ → List ℕ = row_lines g.A.Array.BITS (2 ^ state.tree.nx) (λ x y. bits_of (pixel_of state x y)) in
    let columns : c.size-nx.result.0 ≡ state.tree.nx = ap (λ s. s.0) c.size-nx.ensures.size in
    let rows : c.size-nx.result.1 ≡ state.tree.ny = ap (λ s. s.1) c.size-nx.ensures.size in
    let end : c.power-y-end.result ≡ 2 ^ state.tree.ny = c.power-y-end.ensures ∙ ap (λ n. 2 ^ n) rows in
    let all : c.loop-y.y ≡ 2 ^ state.tree.ny = omega (arith, end, c.loop-y-test.false, c.loop-y.auto.y-end) in
    let put = rw (columns, all) at c.loop-y.invariant.put in
    let text = flat_map f (range_with_len 0 (2 ^ state.tree.ny)) in
    err_cut _ _ _ _ [] _ text [] [] text (append-nil text) put (rw (sym (append-nil c.loop-y.piece.bytes)) at
    c.flush.ensures.err)
