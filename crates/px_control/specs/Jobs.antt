-- What every program and every job keeps. Only proofs and private functions stand on it.
use Rattle.std.specs.Prelude.{◌≡◌, ℕ, List, length}
use Rattle.px_normal.specs.declared.product.Product.{Product}
use Rattle.px_normal.specs.Forms.{sum_of_products}
use Rattle.px_prune.specs.Kept.{kept_of}
use Rattle.px_model.specs.Scenes.{SceneView}
use Rattle.px_sched.specs.Layouts.{LayoutView, layout_of}
use Rattle.px_sched.specs.Passes.{passes}
use Rattle.px_control.specs.declared.place.Place.{Place}
use Rattle.px_control.specs.Program.{CanRun, columns_of, rows_of, total}
use Rattle.px_control.specs.Standing.{StandsFor}

-- what is available to give the program of a scene: the products that are kept, the layout, and the grid
pub record IsProgram (scene : SceneView) (kept : List Product) (l : LayoutView) (nx ny : ℕ) : Type 0 where
  pub can_run : CanRun scene
  pub products : kept ≡ kept_of scene (sum_of_products scene.show)
  pub layout : l ≡ layout_of scene
  pub columns : nx ≡ columns_of scene
  pub rows : ny ≡ rows_of scene

-- what every job keeps
pub record IsJob (scene : SceneView) (place : Place) (macros total_clocks : ℕ) : Type 0 where
  pub can_run : CanRun scene
  pub stands : StandsFor scene place
  pub operations : macros ≡ length (passes scene)
  pub clocks : total_clocks ≡ total scene
