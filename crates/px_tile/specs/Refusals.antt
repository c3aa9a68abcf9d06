-- Why a wide picture is not drawn, in the order in which it is asked. Clauses of public calls stand on it.
use Rattle.std.specs.Prelude.{ℕ, ℤ, nat_lt, if◌then◌else◌, List, [], ◌∷◌, Option, Some, None, map}
use Rattle.std.specs.List.{range_with_len}
use Rattle.std.specs.Option.{option_map, option_or}
use Rattle.px_normal.specs.declared.fault.NormalFault.{NormalFault}
use Rattle.px_normal.specs.declared.fault.NormalFault.TheVariants as normal
use Rattle.px_prune.specs.Kept.{crowd_of}
use Rattle.px_model.specs.Planes.{first_past}
use Rattle.px_model.specs.Scenes.{SceneView}
use Rattle.px_sched.specs.Layouts.{layout_of, need_of}
use Rattle.px_control.specs.declared.fault.JobFault.{JobFault}
use Rattle.px_control.specs.declared.fault.JobFault.TheVariants as job
use Rattle.px_tile.specs.declared.fault.WideFault.{WideFault}
use Rattle.px_tile.specs.declared.fault.WideFault.TheVariants as wide
use Rattle.px_tile.specs.declared.draw.TheConstants.{MAX_TILES}
use Rattle.px_tile.specs.Tilings.{scene_of_tile, tile_count}

-- the first of some answers that is one
abbrev pub first_some : {X : Type 0} → List (Option X) → Option X
first_some [] = None
first_some (answer ∷ answers) = option_or answer (first_some answers)

-- what is first found of a tile by rows, where it is found of one
abbrev pub first_of_tiles : {X : Type 0} → (SceneView → Option X) → SceneView → (width height : ℕ) → Option X
first_of_tiles found scene width height =
    first_some (map (λ tile. found (scene_of_tile scene width height tile))
    (range_with_len 0 (tile_count scene width height)))

-- the first coefficient past the limit of the first tile that has one
abbrev pub first_coefficient : SceneView → (width height : ℕ) → Option ℤ
first_coefficient scene width height = first_of_tiles (λ tile. first_past tile.solids) scene width height

-- the length of the first wanted list past the limit, of the first tile that has one
abbrev pub first_crowd : SceneView → (width height : ℕ) → Option ℕ
first_crowd scene width height = first_of_tiles crowd_of scene width height

-- so many tiles are past the limit
abbrev pub many_tiles : ℕ → Option WideFault
many_tiles count = if nat_lt MAX_TILES count then Some (wide.Tiles count) else None

-- the passes of a scene need more memory bits than these
abbrev pub bits_short : {X : Type 0} → (ℕ → X) → SceneView → (bits : ℕ) → Option X
bits_short fault scene bits =
    if nat_lt bits (need_of (layout_of scene)) then Some (fault (need_of (layout_of scene))) else None

-- why a scene is not drawn on an array with pixels of so many bits
abbrev pub tile_refusal : SceneView → (bits : ℕ) → Option JobFault
tile_refusal scene bits = option_or (bits_short job.PixelMemory scene bits) (option_map job.Products (crowd_of scene))

-- a refusal of a tile's products as one of the wide picture
abbrev pub products_fault : NormalFault → WideFault
products_fault (normal.TooMany count) = wide.Products count
products_fault (normal.Memory m) = wide.Memory m

-- why a wide picture is not drawn, as far as it is known before any memory is taken: all but the products of its tiles
abbrev pub early_refusal : SceneView → (width height bits : ℕ) → Option WideFault
early_refusal scene width height bits = option_or (many_tiles (tile_count scene width height))
    (option_or (option_map wide.Coefficient (first_coefficient scene width height))
    (bits_short wide.PixelMemory scene bits))

-- why a wide picture is not drawn tile by tile
abbrev pub wide_refusal : SceneView → (width height bits : ℕ) → Option WideFault
wide_refusal scene width height bits = option_or (many_tiles (tile_count scene width height))
    (option_or (option_map wide.Coefficient (first_coefficient scene width height))
    (option_or (bits_short wide.PixelMemory scene bits)
    (option_map wide.Products (first_crowd scene width height))))
