-- What joins `list` and `play`: the text of a scene's passes, played, leaves the picture of the scene.
-- Clauses of public calls stand on it.
use Rattle.std.specs.Prelude.{◌≡◌, ℕ, ◌≤◌, All, List, length}
use Rattle.px_text.specs.declared.text.TheConstants.{MAX_TEXT_BYTES}
use Rattle.px_array.specs.Arrays.{Device, pixel_of}
use Rattle.px_scene.specs.Scenes.{IsLawfulScene, SceneView, IsLawfulSolid}
use Rattle.px_listing.specs.Memories.{played_text}
use Rattle.px_listing.specs.PassesText.{passes_listing}
use Rattle.px_sched.specs.Layouts.{layout_of}
use Rattle.px_sched.specs.PassesLaw.{ShowsThePicture}
use Rattle.px_draw.specs.Listings.{IsPlayed, listing_written, played_out}
use Rattle.px_draw.specs.Works.{listed}
use Rattle.px_commands.specs.Outcomes.{done}

-- a text that `list` answers for a scene, as every scene that is read is one, on an array with pixels of so many bits
pub record IsListed (bits : ℕ) (scene : SceneView) (text : List ℕ) : Type 0 where
  pub scene_is : IsLawfulScene scene
  pub solids : All IsLawfulSolid scene.solids
  pub few : bits ≤ 256
  pub answer : listed scene bits ≡ done text

-- within the limit of a text, `play` answers what the passes of the scene mean
abbrev pub ListedPassesArePlayed : Type 0
ListedPassesArePlayed = (bits : ℕ) (scene : SceneView) (text : List ℕ) → IsListed bits scene text
    → length text ≤ MAX_TEXT_BYTES →
    played_out text bits ≡ done (played_text bits (passes_listing scene))

-- and the array that it leaves stores the picture of the scene in key B of each pixel
abbrev pub ListedPassesShowThePicture : Type 0
ListedPassesShowThePicture = (bits : ℕ) (scene : SceneView) (text : List ℕ) (device : Device)
    → IsListed bits scene text →
    IsPlayed bits (listing_written text) device →
    ShowsThePicture scene (layout_of scene) (λ x y. (pixel_of device.state x y).memory)

-- what `play` answers for a text is what the passes of the scene mean, and the array that it leaves stores the picture
pub record PlaysTheScene (bits : ℕ) (scene : SceneView) (text answer : List ℕ) : Type 0 where
  pub lines : answer ≡ played_text bits (passes_listing scene)
  pub picture : (device : Device) → IsPlayed bits (listing_written text) device →
      ShowsThePicture scene (layout_of scene) (λ x y. (pixel_of device.state x y).memory)

-- so it is wherever `play` answers `Done` for a text that `list` wrote, however many bits each of the two arrays
-- has: the passes of a scene may need fewer than the scene
abbrev pub DoneShowsThePicture : Type 0
DoneShowsThePicture = (listed_bits bits : ℕ) (scene : SceneView) (text answer : List ℕ)
    → IsListed listed_bits scene text →
    played_out text bits ≡ done answer → PlaysTheScene bits scene text answer
