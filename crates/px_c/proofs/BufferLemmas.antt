-- The pixels of a picture, row by row.
use Rattle.px_num.proofs.Basics.{ℕ, ◌≡◌, ◌+◌, ◌*◌, ◌<◌, ◌≤◌, ◌∙◌, List, get_or, arith, below_more}
use Rattle.px_num.proofs.Basics.{mul-le-mul_right, refl}
use Rattle.px_array.specs.Arrays.{Device}
use Rattle.px_macro.specs.declared.field.Field.{Field}
use Rattle.px_model.specs.declared.solid.Colour.{Colour}
use Rattle.px_model.specs.Scenes.{IsLawfulScene, SceneView}
use Rattle.px_sched.specs.Layouts.{layout_of, need_of, number_part}
use Rattle.px_control.specs.Program.{total}
use Rattle.px_control.proofs.GridLaws.{covers_the_picture}
use Rattle.px_frame.specs.Drawn.{IsDrawn}
use Rattle.px_frame.specs.Picture.{face_at}
use Rattle.px_frame.specs.Strips.{HasNumbers, HoldsRow, strip_number}
use Rattle.px_c.specs.Buffers.{HasColour}

pub few_pixels : (width height : ℕ) → width ≤ 512 → height ≤ 512 → width * height ≤ 262144
few_pixels width height narrow low = grind (arith, mul-le-mul_right)

-- a drawn array has numbers in a field for each row of the picture
pub rows_stored : (bits : ℕ) (scene : SceneView) (device : Device) (field : Field) → IsLawfulScene scene
    → IsDrawn bits scene device → field.at + field.len ≤ need_of (layout_of scene) → field.at ≤ 256 → field.len ≤ 24
    → (y : ℕ) → y < scene.height → HasNumbers bits device field scene.width y
rows_stored bits scene device field lawful drawn room low few y above =
    let covers = covers_the_picture bits scene (total scene) device lawful drawn.at in
    record {
      is_open = covers.is_open;
      columns = covers.columns;
      wide = lawful.sizes.width_limit;
      row = omega (arith, above, covers.rows);
      room = omega (arith, room, drawn.at.enough);
      low = low;
      few = few;
    }

-- the place of a pixel is before those of a row further down
pub place_above : (x row y width : ℕ) → x < width → row < y → row * width + x < y * width
place_above x row y width left above = grind (arith, mul-le-mul_right)

-- what the pixels of some rows have, and those of the next one
pub rows_more : (P : (x y : ℕ) → Type 0) (width y : ℕ) → ((x row : ℕ) → x < width → row < y → P x row)
    → ((x : ℕ) → x < width → P x y) → (x row : ℕ) → x < width → row < y + 1 → P x row
rows_more P width y before next x row left = grind (arith, below_more)

-- a colour stays where the bytes before a place do
pub colour_kept : (before now : List ℕ) (at end : ℕ) (colour : Colour)
    → ((i : ℕ) → i < end → get_or now i 0 ≡ get_or before i 0) → at + 2 < end → HasColour before at colour
    → HasColour now at colour
colour_kept before now at end colour same within has = grind (arith)

-- the face that a pixel shows, where a strip has the numbers of its row
pub face_in_strip : (bits : ℕ) (scene : SceneView) (device : Device) (strip : List ℕ) (x y : ℕ) → IsLawfulScene scene
    → IsDrawn bits scene device
    → HoldsRow strip (number_part (layout_of scene) (layout_of scene).key_b) device.state scene.width y
    → x < scene.width → y < scene.height → strip_number strip x y ≡ face_at scene x y
face_in_strip bits scene device strip x y lawful drawn held left above =
    let covers = covers_the_picture bits scene (total scene) device lawful drawn.at in
    held.each x y left refl (omega (arith, above, covers.rows)) ∙ (drawn.picture x y left above).face
