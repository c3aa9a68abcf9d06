-- The listing of a scene: its grid and its passes. Clauses of public calls stand on it.
use Rattle.std.specs.Prelude.{ℕ, ◌≤◌, All}
use Rattle.px_array.specs.Arrays.{State, pixel_of}
use Rattle.px_macro.specs.Macros.{IsLawful}
use Rattle.px_model.specs.Grids.{exponent_of}
use Rattle.px_model.specs.Scenes.{IsGridExponent, IsLawfulScene, SceneView, IsLawfulSolid}
use Rattle.px_sched.specs.Layouts.{layout_of}
use Rattle.px_sched.specs.Passes.{passes}
use Rattle.px_sched.specs.PassesLaw.{ShowsThePicture}
use Rattle.px_listing.specs.Listings.{ListingView, canonical_listing}
use Rattle.px_listing.specs.Played.{HasPlayed}
use Rattle.px_listing.specs.RoundTrip.{IsReadAsListing}

abbrev pub passes_listing : SceneView → ListingView
passes_listing scene = record {
  nx = exponent_of scene.width;
  ny = exponent_of scene.height;
  macros = passes scene;
}

-- the grid of a listing is a scene's: for its columns and its rows the least power of 2 from 2 to 512
pub record HasScenesGrid (scene : SceneView) (l : ListingView) : Type 0 where
  pub columns : IsGridExponent scene.width l.nx
  pub rows : IsGridExponent scene.height l.ny

abbrev pub PassesHaveTheScenesGrid : Type 0
PassesHaveTheScenesGrid = (scene : SceneView) → IsLawfulScene scene → HasScenesGrid scene (passes_listing scene)

-- pixels that can carry out each of a scene's passes: those that have the bits that its layout needs, and where its
-- passes use fewer, as those of products of one literal do, pixels with fewer
pub record CanPlay (bits : ℕ) (scene : SceneView) : Type 0 where
  pub scene_is : IsLawfulScene scene
  pub solids : All IsLawfulSolid scene.solids
  pub lawful : All (λ m. IsLawful m bits) (passes scene)

-- the text of a scene's passes is read as their listing
abbrev pub PassesAreReadBack : Type 0
PassesAreReadBack = (bits : ℕ) (scene : SceneView) → CanPlay bits scene → bits ≤ 256 →
    IsReadAsListing bits (canonical_listing (passes_listing scene)) (passes_listing scene)

-- an array that has played it stores the picture of the scene in key B of each pixel
abbrev pub PlayedPassesShowThePicture : Type 0
PlayedPassesShowThePicture = (bits : ℕ) (scene : SceneView) (state : State) → CanPlay bits scene →
    HasPlayed bits (passes_listing scene) state →
    ShowsThePicture scene (layout_of scene) (λ x y. (pixel_of state x y).memory)
