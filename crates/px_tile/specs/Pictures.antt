-- What drawing a wide picture tile by tile leaves of the array. Clauses of public calls stand on it.
use Rattle.std.specs.Prelude.{◌≡◌, ℕ, ◌-◌, ◌<◌, ◌⊎◌}
use Rattle.px_num.specs.Want.{want}
use Rattle.px_array.specs.Slots.{ArrayView, IsRunOnce, none_open}
use Rattle.px_model.specs.Scenes.{SceneView}
use Rattle.px_control.specs.Program.{IsAt, total}
use Rattle.px_tile.specs.declared.fault.WideFault.{WideFault}
use Rattle.px_tile.specs.declared.fault.WideFault.TheVariants as wide
use Rattle.px_tile.specs.Tilings.{scene_of_tile, tile_count}

-- the array is as all broadcasts of a tile's scene leave a new one, its slots and its work too
abbrev pub IsTileDrawn : (bits : ℕ) → SceneView → (width height tile : ℕ) → ArrayView → Type 0
IsTileDrawn bits scene width height tile now =
    IsAt bits (scene_of_tile scene width height tile) (total (scene_of_tile scene width height tile)) now.device
    × IsRunOnce now

-- the array after the last tile
abbrev pub IsLastDrawn : (bits : ℕ) → SceneView → (width height : ℕ) → ArrayView → Type 0
IsLastDrawn bits scene width height now =
    IsTileDrawn bits scene width height (tile_count scene width height - 1) now

-- one of the tiles is drawn
abbrev pub IsSomeDrawn : (bits : ℕ) → SceneView → (width height : ℕ) → ArrayView → Type 0
IsSomeDrawn bits scene width height now =
    (tile : ℕ) × (tile < tile_count scene width height) × IsTileDrawn bits scene width height tile now

-- what a refusal leaves of the array: only if memory runs out may it be another one, and then none is open or a
-- tile is drawn
abbrev pub LeavesOnWideRefusal : WideFault → (bits : ℕ) → SceneView → (width height : ℕ) → (before now : ArrayView)
    → Type 0
LeavesOnWideRefusal (wide.Memory _) bits scene width height before now =
    (now ≡ before) ⊎ (now ≡ none_open) ⊎ IsSomeDrawn bits scene width height now
LeavesOnWideRefusal fault bits scene width height before now = now ≡ before
