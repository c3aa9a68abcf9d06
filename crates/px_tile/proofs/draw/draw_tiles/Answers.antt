use Rattle.px_num.proofs.Basics.{◌≡◌, ◌<◌, ◌++◌, ap, arith, drop, length, take}
use Rattle.px_tile.specs.Tilings.{tile_count}
use Rattle.px_tile.proofs.DrawLemmas.{last_left, put_back, tiles_all, tiles_more}
use Rattle.px_tile.proofs.draw.draw_tiles.Goals as goal

pub loop-tile-preserved : goal.loop-tile-preserved
loop-tile-preserved g c =
    let low : c.loop-tile.tile < tile_count c.args.scene.now c.args.width c.args.height =
    omega (arith, c.tile_count-tile-end.ensures) in
    let law = c.laws_of_scenes.ensures.scene in
    let numbers = c.as_mut_slice-numbers.ensures in
    let put = rw numbers.value at c.in_ok-draw_tile.ensures.ok in
    let more = tiles_more c.args.scene.now c.args.width c.args.height law.sizes.some_width law.sizes.some_height
    c.requires.size
    c.loop-tile.tile _ _ c.loop-tile.invariant.tiles put in
    let old = c.loop-tile.found.items in
    let new = c.draw_tile.new.found in
    let back : take c.loop-tile.found.len (new ++ drop (length new) old) ≡ new =
    put_back c.loop-tile.found.len new old put.count (omega (arith, ap length numbers.value, numbers.len)) in
    grind arith

pub returns-clause-found : goal.returns-clause-found
returns-clause-found g c =
    let law = c.laws_of_scenes.ensures.scene in
    let done : c.loop-tile.tile ≡ tile_count c.args.scene.now c.args.width c.args.height =
    omega (arith, c.tile_count-tile-end.ensures, c.loop-tile.auto.tile-end) in
    tiles_all c.args.scene.now c.args.width c.args.height law.sizes.some_width law.sizes.some_height c.requires.size
    c.loop-tile.found.items
    (rw done at c.loop-tile.invariant.tiles)

pub returns-clause-drawn : goal.returns-clause-drawn
returns-clause-drawn g c =
    let law = c.laws_of_scenes.ensures.scene in
    let done : c.loop-tile.tile ≡ tile_count c.args.scene.now c.args.width c.args.height =
    omega (arith, c.tile_count-tile-end.ensures, c.loop-tile.auto.tile-end) in
    last_left c.args.scene.now c.args.width c.args.height law.sizes.some_width law.sizes.some_height c.requires.size _
    _ _
    (rw done at c.loop-tile.invariant.left)
