-- The tiles of a wide picture, one after another.
use Rattle.px_num.proofs.Basics.{◌≡◌, ℕ, ◌+◌, ◌-◌, ◌*◌, ◌/◌, ◌%◌, ◌<◌, ◌≤◌, min, nat_lt, Bool, true, false, inl, inr}
use Rattle.px_num.proofs.Basics.{List, ◌++◌, drop, take, length, Option, Some, None, if◌then◌else◌, refl, ap, ◌∙◌}
use Rattle.px_num.proofs.Basics.{arith, option_map, mul-le-mul_right, cases_lt, drop_all, take_all}
use Rattle.std.proofs.lemmas.List.{append-nil}
use Rattle.px_array.specs.Slots.{ArrayView}
use Rattle.px_prune.specs.Kept.{crowd_of}
use Rattle.px_model.specs.Scenes.{SceneView}
use Rattle.px_model.specs.Cells.{picture}
use Rattle.px_sched.specs.Layouts.{layout_of, need_of}
use Rattle.px_control.specs.declared.fault.JobFault.{JobFault}
use Rattle.px_model.specs.Planes.{first_past}
use Rattle.px_tile.specs.Drawn.{HasTiles, IsLeft, tile_at, crowd_of_tile}
use Rattle.px_tile.specs.Found.{IsFound, IsInTile, PutsTile, number_at, sight_number}
use Rattle.px_tile.specs.Pictures.{IsLastDrawn}
use Rattle.px_tile.specs.Refusals.{bits_short, first_coefficient, first_crowd, tile_refusal, wide_refusal}
use Rattle.px_tile.specs.Tilings.{IsWideSize, column_of, row_of, scene_of_tile, tile_count, tiles_across}
use Rattle.px_tile.proofs.FirstLemmas.{none_each, both_none}
use Rattle.px_model.proofs.PixelsLaws.{counts_kept}
use Rattle.px_tile.proofs.TileLemmas.{tile_shows}
use Rattle.px_tile.proofs.TilingLemmas.{column_is, covers_all, in_part, part_of_pixel, place_inside, place_is, row_is}
use Rattle.px_tile.proofs.TilingLemmas.{some_across}
use Rattle.px_control.specs.declared.fault.JobFault.TheVariants as job
use Rattle.px_tile.specs.declared.fault.WideFault.TheVariants as wide

module _ (scene : SceneView) (width height : ℕ) (some_w : 1 ≤ scene.width) (some_h : 1 ≤ scene.height)
    (size : IsWideSize width height) where
  abbrev columns : ℕ
  columns = tiles_across scene.width width

  -- a pixel is in its tile
  in_its_tile : (tile x y : ℕ) → x < width → y < height → tile_at scene width x y ≡ tile
      → IsInTile (scene_of_tile scene width height tile) (column_of scene width tile) (row_of scene width tile) x y
  in_its_tile tile x y left above is =
      let low : x / scene.width < columns = covers_all scene.width width x some_w left in
      let column : tile % columns ≡ x / scene.width =
      rw (← is) (column_is columns (y / scene.height) (x / scene.width) low) in
      let row : tile / columns ≡ y / scene.height =
      rw (← is) (row_is columns (y / scene.height) (x / scene.width) low) in
      let across = in_part scene.width width x (tile % columns) some_w left column in
      let down = in_part scene.height height y (tile / columns) some_h above row in
      record { from_left = across.0; left = across.1; from_top = down.0; above = down.1 }

  -- and in no other
  only_in_its_tile : (tile x y : ℕ) → IsInTile (scene_of_tile scene width height tile) (column_of scene width tile)
      (row_of scene width tile) x y
      → tile_at scene width x y ≡ tile
  only_in_its_tile tile x y is = grind (arith, place_is, part_of_pixel)

  -- one tile more
  pub tiles_more : (tile : ℕ) (old new : List ℕ) → HasTiles scene width height tile old
      → PutsTile (scene_of_tile scene width height tile) (column_of scene width tile)
      (row_of scene width tile) width old new → HasTiles scene width height (tile + 1) new
  tiles_more tile old new has put = record {
    size = put.count ∙ has.size;
    each = λ x y left above low. elim (cases_lt (tile_at scene width x y) tile) [
      | inl before ↦
          put.rest x y left (λ inside. absurd (omega (arith, only_in_its_tile tile x y inside)))
          ∙ has.each x y left above before
      | inr from ↦ here x y left above (omega arith)
    ];
  }
    where
      here : (x y : ℕ) → x < width → y < height → tile_at scene width x y ≡ tile → number_at new width x y
          ≡ sight_number (picture scene x y)
      here x y left above is =
          let inside = in_its_tile tile x y left above is in
          let x0 = column_of scene width tile in
          let y0 = row_of scene width tile in
          let across : x0 + (x - x0) ≡ x = omega (arith, inside.from_left) in
          let down : y0 + (y - y0) ≡ y = omega (arith, inside.from_top) in
          let shown = put.shown (x - x0) (y - y0) (omega (arith, inside.from_left, inside.left))
          (omega (arith, inside.from_top, inside.above)) in
          let same = tile_shows scene x0 y0 (min scene.width (width - x0)) (min scene.height (height - y0)) width height
          (x - x0) (y - y0) in
          rw (across, down) at (shown ∙ ap sight_number same)

  -- all tiles are the picture
  pub tiles_all : (found : List ℕ) → HasTiles scene width height (tile_count scene width height) found
      → IsFound scene width height found
  tiles_all found has = record {
    count = has.size;
    each = λ x y left above.
        has.each x y left above
        (place_inside columns (tiles_across scene.height height) (y / scene.height) (x / scene.width)
        (covers_all scene.height height y some_h above) (covers_all scene.width width x some_w left));
  }

  pub some_tiles : 1 ≤ tile_count scene width height
  some_tiles = grind (arith, place_inside, some_across)

  -- the array that the last tile left
  pub last_left : (bits : ℕ) (before now : ArrayView) → IsLeft bits scene width height (tile_count scene width height)
      before now
      → IsLastDrawn bits scene width height now
  last_left bits before now (inl (none, same)) = absurd (omega (arith, some_tiles))
  last_left bits before now (inr (last, is, low, drawn)) =
      let here : tile_count scene width height - 1 ≡ last = omega arith in rw here drawn

-- what holds of a picture that is not refused
pub record IsDrawable (scene : SceneView) (width height bits : ℕ) : Type 0 where
  pub coefficients : first_coefficient scene width height ≡ None
  pub memory : bits_short wide.PixelMemory scene bits ≡ None
  pub products : first_crowd scene width height ≡ None

unmapped : {X Y : Type 0} (g : X → Y) (a : Option X) → option_map g a ≡ None → a ≡ None
unmapped g None none = refl
unmapped g (Some x) none = absurd cc

pub is_drawable : (scene : SceneView) (width height bits : ℕ) → wide_refusal scene width height bits ≡ None
    → IsDrawable scene width height bits
is_drawable scene width height bits none = grind (arith, both_none, unmapped)

pub tile_within : (scene : SceneView) (width height bits tile : ℕ) → wide_refusal scene width height bits ≡ None
    → tile < tile_count scene width height → first_past (scene_of_tile scene width height tile).solids ≡ None
tile_within scene width height bits tile none low =
    none_each (λ t. first_past (scene_of_tile scene width height t).solids) tile (tile_count scene width height)
    (is_drawable scene width height bits none).coefficients low

-- the passes of a tile need as many bits as those of the scene
need_same : (scene : SceneView) (width height tile : ℕ) → need_of (layout_of (scene_of_tile scene width height tile))
    ≡ need_of (layout_of scene)
need_same scene width height tile = grind (arith, counts_kept)

bits_enough : (need bits : ℕ) (other : JobFault) (b : Bool) → (if b then Some (wide.PixelMemory need) else None) ≡ None
    → (if b then Some other else None) ≡ None
bits_enough need bits other true none = absurd cc
bits_enough need bits other false none = refl

pub tile_fits : (scene : SceneView) (width height bits tile : ℕ) → wide_refusal scene width height bits ≡ None
    → tile < tile_count scene width height → tile_refusal (scene_of_tile scene width height tile) bits ≡ None
tile_fits scene width height bits tile none low =
    let is = is_drawable scene width height bits none in
    let crowd : crowd_of (scene_of_tile scene width height tile) ≡ None =
    none_each (crowd_of_tile scene width height) tile (tile_count scene width height) is.products low in
    let enough : bits_short job.PixelMemory (scene_of_tile scene width height tile) bits ≡ None =
    rw (need_same scene width height tile)
    (bits_enough (need_of (layout_of scene)) bits (job.PixelMemory (need_of (layout_of scene)))
    (nat_lt bits (need_of (layout_of scene))) is.memory) in
    rw (enough, crowd) refl

-- a tile's rows are rows of the wide picture
pub rows_inside : (width height last : ℕ) → last ≤ height → last * width ≤ width * height
rows_inside width height last within = grind (arith, mul-le-mul_right)

-- numbers in place of all of others
pub put_back : (count : ℕ) (new old : List ℕ) → length new ≡ length old → count ≡ length old
    → take count (new ++ drop (length new) old) ≡ new
put_back count new old same all = grind (arith, drop_all, append-nil, take_all)
