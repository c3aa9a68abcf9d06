use Rattle.px_num.proofs.Basics.{◌<◌, ◌∙◌, sym, arith}
use Rattle.px_model.specs.Planes.{first_past}
use Rattle.px_tile.specs.Tilings.{scene_of_tile, tile_count}
use Rattle.px_tile.proofs.FirstLemmas.{first_is}
use Rattle.px_tile.proofs.draw.first_coefficient.Goals as goal

pub returns-then-is_some : goal.returns-then-is_some
returns-then-is_some c =
    let count = tile_count c.args.scene.now c.args.width c.args.height in
    let low : c.loop-tile.tile < count = omega (arith, c.tile_count-tile-end.ensures) in
    first_is (λ tile. first_past (scene_of_tile c.args.scene.now c.args.width c.args.height tile).solids)
    c.loop-tile.tile
    count c.coefficient_of_tile-found.result c.loop-tile.invariant low c.coefficient_of_tile-found.ensures
    (sym c.is_some.ensures ∙ c.if-is_some.true)
