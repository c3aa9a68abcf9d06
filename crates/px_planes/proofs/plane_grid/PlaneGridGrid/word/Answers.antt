use Rattle.px_num.proofs.Basics.{◌≡◌, ◌∙◌, ◌+◌, ◌*◌, ◌^◌, ◌<◌, ℕ, List, [], get_or, length, ap, arith, get_or_default}
use Rattle.px_planes.proofs.Words.{nat_bit, row_bit}
use Rattle.px_planes.proofs.GridLemmas.{row_law}
use Rattle.px_planes.proofs.plane_grid.PlaneGridGrid.word.Goals as goal

pub returns : goal.returns
returns g c = λ i within.
    let planes = c.self.inside.planes in
    let pixels = c.self.invariant.pixels in
    let place : c.args.at < length planes.memory.items = omega (arith, c.requires.place, pixels.memory) in
    let row : c.index.result.now ≡ get_or planes.memory.items c.args.at [] =
    c.index.ensures ∙ get_or_default planes.memory.items c.args.at _ [] place in
    let some : 64 * c.args.w < 2 ^ (c.self.inside.tree.nx + c.self.inside.tree.ny) =
    rw (← c.self.view_is) at c.requires.word in
    let read : nat_bit c.word.result i ≡ row_bit c.index.result.now (64 * c.args.w + i) = grind arith in
    rw (← c.self.view_is) (read ∙ (ap (λ (xs : List ℕ). row_bit xs (64 * c.args.w + i)) row
    ∙ row_law g.row.N _ planes c.args.at (64 * c.args.w + i) pixels c.requires.place (omega (arith, some))))
