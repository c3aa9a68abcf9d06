use Rattle.px_num.proofs.Basics.{◌<◌, arith, err_from_is_err_and, inl, inr}
use Rattle.px_model.specs.Planes.{first_past}
use Rattle.px_tile.specs.Drawn.{crowd_of_tile}
use Rattle.px_tile.specs.Tilings.{scene_of_tile, tile_count}
use Rattle.px_tile.proofs.FirstLemmas.{made_first, none_each}
use Rattle.px_tile.specs.declared.fault.WideFault.TheVariants as wide
use Rattle.px_tile.proofs.draw.check_products.Goals as goal

pub check_products_of_tile-requires-clause-within : goal.check_products_of_tile-requires-clause-within
check_products_of_tile-requires-clause-within c =
    let count = tile_count c.args.scene.now c.args.width c.args.height in
    let low : c.loop-tile.tile < count = omega (arith, c.tile_count-tile-end.ensures) in
    none_each (λ tile. first_past (scene_of_tile c.args.scene.now c.args.width c.args.height tile).solids)
    c.loop-tile.tile
    count c.requires.within low

pub returns-in_err-check_products_of_tile-clause-err : goal.returns-in_err-check_products_of_tile-clause-err
returns-in_err-check_products_of_tile-clause-err c =
    let count = tile_count c.args.scene.now c.args.width c.args.height in
    let low : c.loop-tile.tile < count = omega (arith, c.tile_count-tile-end.ensures) in
    let p = err_from_is_err_and c.from_residual.result c.from_residual.ensures.1 in
    rw (p.1, p.2) (elim c.in_err-check_products_of_tile.ensures.err [
      | inl here ↦ inl (made_first (λ n. wide.Products n) (crowd_of_tile c.args.scene.now c.args.width c.args.height)
          c.loop-tile.tile count _ c.loop-tile.invariant low here)
      | inr memory ↦ inr memory
    ])
