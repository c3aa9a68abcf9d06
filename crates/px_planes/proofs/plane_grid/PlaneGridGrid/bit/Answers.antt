use Rattle.px_num.proofs.Basics.{◌≡◌, ◌∙◌, ◌+◌, ◌*◌, ◌^◌, ◌<◌, ℕ, List, [], get_or, length, ap, arith, get_or_default}
use Rattle.px_planes.proofs.Words.{bit_at, no_pixel, pixels_in, row_bit}
use Rattle.px_planes.proofs.GridLemmas.{bit_law}
use Rattle.px_planes.proofs.plane_grid.PlaneGridGrid.bit.Goals as goal

pub returns : goal.returns
returns g c =
    let planes = c.self.inside.planes in
    let tree = c.self.inside.tree in
    let pixels = c.self.invariant.pixels in
    let rows : c.args.at < length planes.memory.items = omega (arith, c.requires.place, pixels.memory) in
    let row : c.index.result.now ≡ get_or planes.memory.items c.args.at [] =
    c.index.ensures ∙ get_or_default planes.memory.items c.args.at _ [] rows in
    let place : c.leaf_index.result ≡ c.args.x * 2 ^ tree.ny + c.args.y =
    rw c.size-nx.ensures.size at c.leaf_index.ensures.value in
    let within : c.leaf_index.result < 2 ^ (tree.nx + tree.ny) =
    rw c.size-nx.ensures.size at c.leaf_index.ensures.within in
    rw (← c.self.view_is)
    (c.bit.ensures ∙ (ap (λ (xs : List ℕ). row_bit xs c.leaf_index.result) row
    ∙ (bit_law g.row.N (2 ^ (tree.nx + tree.ny)) planes c.args.at c.leaf_index.result pixels c.requires.place within
    ∙ ap (λ p. bit_at (get_or (pixels_in (2 ^ (tree.nx + tree.ny)) planes) p no_pixel).memory c.args.at) place)))
