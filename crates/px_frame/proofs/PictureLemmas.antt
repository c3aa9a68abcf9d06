-- What the images of an accepted text show, from what texts and pictures are known for; and which scenes are drawn.
use Rattle.px_num.proofs.Basics.{◌≡◌, ℕ, None, Option, arith, refl}
use Rattle.px_model.specs.Cells.{picture}
use Rattle.px_face.specs.Surfaces.{PicturesShowBackground}
use Rattle.px_face.proofs.BackgroundLemmas.{shows_background}
use Rattle.px_face.proofs.SeenLemmas.{shows_first_cells}
use Rattle.px_face.proofs.SurfaceLemmas.{scene_surface}
use Rattle.px_scene.specs.Reading.{scene_of}
use Rattle.px_scene.proofs.AcceptedLemmas.{accepted_lawful}
use Rattle.px_scene.specs.Text.{worded}
use Rattle.px_normal.specs.CrowdLaw.{CrowdLaw}
use Rattle.px_prune.specs.Bounding.{bounding_box}
use Rattle.px_prune.specs.Kept.{crowd_of}
use Rattle.px_normal.specs.declared.cell_box.CellBox.{CellBox}
use Rattle.px_frame.specs.PictureLaw.{SmallScenesAreDrawn, TextsHavePictures}

pub background_shown : PicturesShowBackground
background_shown = shows_background scene_surface

pub texts_have_pictures : TextsHavePictures
texts_have_pictures text good = record {
  sights = picture (scene_of (worded text));
  written = refl;
  shown = shows_first_cells scene_surface (scene_of (worded text)) (accepted_lawful text good).scene_is;
}

pub small_scenes_are_drawn : ((boxes : ℕ → Option CellBox) → CrowdLaw boxes) → SmallScenesAreDrawn
small_scenes_are_drawn law bits scene fits plain few =
    let none : crowd_of scene ≡ None = (law (bounding_box scene)).none scene.show plain few in grind arith
