use Rattle.px_num.proofs.Basics.{◌≡◌, ◌∙◌, ◌<◌, ℕ, List, [], get_or, length, ap, arith, get_or_default}
use Rattle.px_rows.specs.Rows.{row_bit}
use Rattle.px_planes.proofs.GridLemmas.{row_law}
use Rattle.px_planes.proofs.plane_grid.PlaneGridRowGrid.row.Goals as goal

pub returns-clause-bits : goal.returns-clause-bits
returns-clause-bits g c = λ p within.
    let planes = c.self.inside.planes in
    let pixels = c.self.invariant.pixels in
    let place : c.args.at < length planes.memory.items = omega (arith, c.requires.place, pixels.memory) in
    let row : c.words.result.now ≡ get_or planes.memory.items c.args.at [] =
    c.words.ensures ∙ (c.index.ensures ∙ get_or_default planes.memory.items c.args.at _ [] place) in
    rw (← c.self.view_is) (ap (λ (xs : List ℕ). row_bit xs p) row ∙ row_law g.row.N _ planes c.args.at p pixels
    c.requires.place (omega (arith, ap length row, pixels.words.memory c.args.at place)))
