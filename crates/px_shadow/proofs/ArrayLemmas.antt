-- What the shadow passes leave in an array that stores the picture, and the image of it.
use Rattle.px_num.proofs.Basics.{◌≡◌, ◌<◌, ◌≤◌, ◌+◌, ◌-◌, ◌*◌, ◌^◌, ◌∙◌, ℕ, List, length, refl, ap, subst, sym, arith}
use Rattle.px_num.proofs.Basics.{All, All-weaker}
use Rattle.px_shadow.proofs.Words.{all_clocked, all_micros, bit_at, CanMake, Device, IsBelow, IsLawful, IsLawfulScene}
use Rattle.px_shadow.proofs.Words.{IsLawfulSolid, layout_of, light_bit, MaskLaw, MAX_LIGHTS, need_with, number_same}
use Rattle.px_shadow.proofs.Words.{nx-after_clocks, ny-after_clocks, pixel_of, PixelBits, plan_of, same_image}
use Rattle.px_shadow.proofs.Words.{ShadedGridLaw, ShadedLaw, shadow_passes, SolidSet}
use Rattle.px_asm.specs.Microprograms.{bits_of}
use Rattle.px_asm.proofs.ProgramLemmas.{micros_leave_the_meanings}
use Rattle.px_macro.proofs.MacroLemmas.{is_lawful_in_more}
use Rattle.px_sched.proofs.LayoutLaws.{scene_layout}
use Rattle.px_control.proofs.BoundLemmas.{few_clocks}
use Rattle.px_control.proofs.GridLaws.{covers_the_picture, is_sized_array}
use Rattle.px_control.proofs.PictureLemmas.{picture_law}
use Rattle.px_shadow.proofs.FitLemmas.{passes_fit, passes_lawful}
use Rattle.px_shadow.proofs.SightLemmas.{shadow_law}
use Rattle.px_model.specs.Scenes.{SceneView}
use Rattle.px_control.specs.Program.{IsAt, array_after, rows_of, total}
use Rattle.px_shadow.specs.Shaded.{IsShaded, shaded, shadow_program}
use Rattle.px_shadow.specs.Carrying.{carried_out}
use Rattle.px_control.proofs.ArrayLaws.{columns_at, rows_at}
use Rattle.px_tree.proofs.PlaceLaws.{index_below}
use Rattle.px_normal.specs.declared.product.TheConstants.{MAX_PRODUCTS}

-- the array that stores the picture
abbrev drawn : (bits : ℕ) → SceneView → Device
drawn bits scene = array_after bits scene (total scene)

pub shaded_is : (bits : ℕ) (scene : SceneView) (lights : List SolidSet) → shaded bits scene lights
    ≡ carried_out (shadow_passes scene (layout_of scene) lights) (drawn bits scene)
unfolding shaded shadow_program carried_out
shaded_is bits scene lights = grind (arith, layout_of, all_clocked, all_micros, rows_of, columns_at, total, rows_at)

-- fewer bits are enough for the scene alone
drawn_at : (bits : ℕ) (scene : SceneView) (lights : List SolidSet) (device : Device)
    → IsShaded bits scene lights device → IsAt bits scene (total scene) (drawn bits scene)
drawn_at bits scene lights device at = record { enough = omega (arith, at.enough); reached = refl }

pub grid_law : ShadedGridLaw
unfolding carried_out
grid_law bits scene lights device lawful at =
    let ms = shadow_passes scene (layout_of scene) lights in
    let before = drawn bits scene in
    let covers = covers_the_picture bits scene (total scene) before lawful (drawn_at bits scene lights device at) in
    let all = all_micros ms before.state.tree.nx before.state.tree.ny in
    let reached = at.reached ∙ shaded_is bits scene lights in
    let columns : device.state.tree.nx ≡ before.state.tree.nx =
    ap (λ (d : Device). d.state.tree.nx) reached ∙ nx-after_clocks all before.state in
    let rows : device.state.tree.ny ≡ before.state.tree.ny =
    ap (λ (d : Device). d.state.tree.ny) reached ∙ ny-after_clocks all before.state in
    record {
      is_open = subst (λ n. 1 ≤ n) (sym columns) covers.is_open;
      columns = subst (λ n. scene.width ≤ 2 ^ n) (sym columns) covers.columns;
      rows = subst (λ n. scene.height ≤ 2 ^ n) (sym rows) covers.rows;
    }

pub shaded_law : ShadedLaw
unfolding carried_out
shaded_law bits scene lights device lawful solids known at x y left up place below =
    let l = layout_of scene in
    let ms = shadow_passes scene l lights in
    let before = drawn bits scene in
    let nx = before.state.tree.nx in
    let ny = before.state.tree.ny in
    let first = drawn_at bits scene lights device at in
    let covers = covers_the_picture bits scene (total scene) before lawful first in
    let sized = is_sized_array bits scene (total scene) before lawful first in
    let column : x < 2 ^ nx = omega (arith, covers.columns, left) in
    let row : y < 2 ^ ny = omega (arith, covers.rows, up) in
    let fit = All-weaker (λ m. IsLawful m (need_with l (length lights))) (λ m. IsLawful m bits)
    (λ m small. is_lawful_in_more m (need_with l (length lights)) bits at.enough small) ms
    (passes_lawful scene lawful solids lights known) in
    let meant = micros_leave_the_meanings bits nx ny sized.grid ms fit before.state sized.pixels x y column row in
    let long = sized.pixels.memory (x * 2 ^ ny + y) (index_below nx ny x y column row) in
    ap (λ (d : Device). bit_at (pixel_of d.state x y).memory (light_bit l (place + 1))) (at.reached
    ∙ shaded_is bits scene lights)
    ∙ ap (λ (p : PixelBits). bit_at p.memory (light_bit l (place + 1))) meant
    ∙ shadow_law scene lawful solids lights x y left up (bits_of (pixel_of before.state x y))
    (omega (arith, at.enough, long)) (picture_law bits scene before lawful solids first x y left up) place below

pub mask_law : MaskLaw
mask_law scene l lights state stores = grind (arith, same_image, number_same)

clocks_at : (bits : ℕ) (scene : SceneView) (n : ℕ) → (array_after bits scene n).clocks ≡ n
unfolding array_after
clocks_at bits scene n = refl

-- the array that stores the picture can carry the shadow passes out
pub can_shade : (bits : ℕ) (scene : SceneView) (lights : List SolidSet) (device : Device) → IsLawfulScene scene
    → All IsLawfulSolid scene.solids → length (plan_of scene) ≤ MAX_PRODUCTS → IsAt bits scene (total scene) device
    → All (IsBelow (length scene.solids)) lights → need_with (layout_of scene) (length lights) ≤ bits
    → length lights ≤ MAX_LIGHTS → CanMake bits (shadow_passes scene (layout_of scene) lights) device
can_shade bits scene lights device lawful solids products at known enough most =
    let l = layout_of scene in
    let need = need_with l (length lights) in
    let ms = shadow_passes scene l lights in
    let fits = passes_fit scene lawful solids lights known in
    let fit = fits.lawful in
    let few = fits.few in
    let layout = scene_layout scene lawful in
    let small : need ≤ 256 = omega (arith, layout.depth, layout.number, most) in
    let sized = is_sized_array bits scene (total scene) device lawful at in
    record {
      grid = sized.grid;
      pixels = sized.pixels;
      lawful = grind (arith, is_lawful_in_more);
      places = grind (arith, is_lawful_in_more);
      counted = grind (arith, clocks_at, few_clocks);
    }

pub is_shaded : (bits : ℕ) (scene : SceneView) (lights : List SolidSet) (device now : Device)
    → IsAt bits scene (total scene) device → need_with (layout_of scene) (length lights) ≤ bits
    → now ≡ carried_out (shadow_passes scene (layout_of scene) lights) device → IsShaded bits scene lights now
is_shaded bits scene lights device now at enough is = grind (arith, shaded_is)

shaded_clocks : (bits : ℕ) (scene : SceneView) (lights : List SolidSet) → (shaded bits scene lights).clocks
    ≡ total scene + length (shadow_program scene lights)
unfolding shaded array_after
shaded_clocks bits scene lights = refl

-- the clocks that were made
pub clocks_made : (bits : ℕ) (scene : SceneView) (lights : List SolidSet) (device now : Device)
    → IsAt bits scene (total scene) device → IsShaded bits scene lights now →
    now.clocks - device.clocks ≡ length (shadow_program scene lights)
clocks_made bits scene lights device now at made = grind (arith, clocks_at, shaded_clocks)
