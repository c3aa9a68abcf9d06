-- The grid of an array on which a scene's broadcasts are made: it has a pixel for each one of the picture.
-- Clauses of public calls stand on it.
use Rattle.std.specs.Prelude.{ℕ, ◌^◌, ◌≤◌}
use Rattle.px_array.specs.Arrays.{Device, HasGrid, IsOpen}
use Rattle.px_model.specs.Scenes.{IsGridExponent, IsLawfulScene, SceneView}
use Rattle.px_tree.specs.Nodes.{IsGrid}
use Rattle.px_control.specs.Program.{IsAt, columns_of, rows_of}

-- the array is open, and its grid is as wide and as high as the picture, or more
pub record CoversThePicture (scene : SceneView) (device : Device) : Type 0 where
  pub is_open : IsOpen device
  pub columns : scene.width ≤ 2 ^ device.state.tree.nx
  pub rows : scene.height ≤ 2 ^ device.state.tree.ny

abbrev pub GridLaw : Type 0
GridLaw = (bits : ℕ) (scene : SceneView) (n : ℕ) (device : Device) → IsLawfulScene scene → IsAt bits scene n device →
    CoversThePicture scene device

-- the grid of a scene's program is the scene's: for its columns and its rows the least power of 2 from 2 to 512
pub record IsScenesGrid (scene : SceneView) : Type 0 where
  pub columns : IsGridExponent scene.width (columns_of scene)
  pub rows : IsGridExponent scene.height (rows_of scene)

abbrev pub LeastGridLaw : Type 0
LeastGridLaw = (scene : SceneView) → IsLawfulScene scene → IsScenesGrid scene

-- its grid is one that an array can have, and its pixels have so many memory bits
pub record IsSizedArray (bits : ℕ) (device : Device) : Type 0 where
  pub grid : IsGrid device.state.tree.nx device.state.tree.ny
  pub pixels : HasGrid bits device.state.tree.nx device.state.tree.ny device.state

abbrev pub SizeLaw : Type 0
SizeLaw = (bits : ℕ) (scene : SceneView) (n : ℕ) (device : Device) → IsLawfulScene scene → IsAt bits scene n device →
    IsSizedArray bits device
