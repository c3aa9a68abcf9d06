-- What the program leaves in each pixel is what the passes mean there.
use Rattle.px_num.proofs.Basics.{◌≡◌, ℕ, ◌+◌, ◌*◌, ◌^◌, ◌<◌, false, length, replicate, get_or, ap, ◌∙◌, arith}
use Rattle.px_num.proofs.Basics.{get_or-replicate, length-replicate, take_all}
use Rattle.px_control.proofs.Words.{after_clocks, after_macros, all_micros, columns_of, exponent_between, exponent_is}
use Rattle.px_control.proofs.Words.{grid_of_zero_state, IsGrid, IsLawfulScene, no_pixel, passes, passes_lawful}
use Rattle.px_control.proofs.Words.{passes_leave_the_picture, pixel_of, rows_of, SceneView, total, zero_state}
use Rattle.px_asm.specs.Microprograms.{bits_of}
use Rattle.px_asm.proofs.ProgramLemmas.{micros_leave_the_meanings}
use Rattle.px_macro.proofs.MacroLemmas.{is_lawful_in_more}
use Rattle.px_array.specs.Pixels.{zero_pixel}
use Rattle.px_tree.proofs.PlaceLaws.{index_below}
use Rattle.px_sched.proofs.PassesLaws.{passes_are_lawful}
use Rattle.px_control.specs.PictureLaw.{PictureLaw}
use Rattle.px_control.specs.Program.{array_after, program}

pub scene_grid : (scene : SceneView) → IsLawfulScene scene → IsGrid (columns_of scene) (rows_of scene)
scene_grid scene lawful =
    (exponent_between scene.width lawful.sizes.width_limit, exponent_between scene.height lawful.sizes.height_limit)

zero_pixel_at : (bits count place : ℕ) → place < count → get_or (replicate count (zero_pixel bits)) place no_pixel
    ≡ zero_pixel bits
zero_pixel_at bits count place h = get_or-replicate count place (zero_pixel bits) no_pixel h

-- the state after the whole program
whole : (bits : ℕ) (scene : SceneView) → (array_after bits scene (total scene)).state ≡ after_clocks
    (all_micros (passes scene) (columns_of scene) (rows_of scene)) (zero_state bits (columns_of scene) (rows_of scene))
unfolding array_after program
whole bits scene = ap (λ ms. after_clocks ms (zero_state bits (columns_of scene) (rows_of scene)))
    (take_all (length (program scene)) (program scene) (omega arith))

pub picture_law : PictureLaw
picture_law bits scene device law solids at x y left up =
    let nx = columns_of scene
    in let ny = rows_of scene
    in let start = zero_state bits nx ny
    in let column : x < 2 ^ nx = omega (arith, (exponent_is scene.width law.sizes.width_limit).enough)
    in let row : y < 2 ^ ny = omega (arith, (exponent_is scene.height law.sizes.height_limit).enough)
    in let pixel : pixel_of start x y ≡ zero_pixel bits =
    zero_pixel_at bits (2 ^ (nx + ny)) (x * 2 ^ ny + y) (index_below nx ny x y column row)
    in let left_there = micros_leave_the_meanings bits nx ny (scene_grid scene law) (passes scene)
    (passes_lawful is_lawful_in_more passes_are_lawful bits scene law solids at.enough) start
    (grid_of_zero_state bits nx ny) x y column row
    in let state : device.state ≡ after_clocks (all_micros (passes scene) nx ny) start =
    ap (λ d. d.state) at.reached ∙ whole bits scene
    in let memory : (pixel_of device.state x y).memory
    ≡ (after_macros (passes scene) x y (bits_of (zero_pixel bits))).memory =
    grind arith
    in rw memory (passes_leave_the_picture scene law solids x y left up (bits_of (zero_pixel bits))
    (omega (arith, at.enough, length-replicate bits false)))
