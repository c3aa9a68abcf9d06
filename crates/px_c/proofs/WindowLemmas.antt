-- What the scene of a window shows is what the scene shows in the window.
use Rattle.px_num.proofs.Basics.{ℕ, ◌≡◌, ◌∙◌, ap, List}
use Rattle.px_model.specs.Cells.{Sight, picture}
use Rattle.px_model.specs.Scenes.{SceneView}
use Rattle.px_tile.specs.Tiles.{tile_scene}
use Rattle.px_tile.specs.TilesLaw.{TilesLaw}
use Rattle.px_c.specs.Buffers.{HoldsNumbers}
use Rattle.px_c.specs.Windows.{HoldsWindow}

pub placed : TilesLaw → (number : Sight → ℕ) (scene window : SceneView) (x y width height : ℕ) (before now : List ℕ)
    → window ≡ tile_scene scene x y width height
    → HoldsNumbers window.width window.height (λ i j. number (picture window i j)) before now
    → HoldsWindow x y width height (λ i j. number (picture scene i j)) before now
placed law number scene window x y width height before now is holds =
    let held = rw is at holds in
    record {
      pixels = λ i j left above. held.pixels i j left above
          ∙ ap number (law scene x y width height scene.width scene.height i j);
      rest = held.rest;
    }
