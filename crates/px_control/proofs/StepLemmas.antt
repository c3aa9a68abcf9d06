-- One broadcast of a program after another.
use Rattle.px_num.proofs.Basics.{◌≡◌, ℕ, ◌+◌, ◌<◌, ◌≤◌, List, [], ◌∷◌, length, take, drop, get_or, Some, ap, sym, ◌∙◌, arith}
use Rattle.px_num.proofs.Basics.{length-append, slice_get, take_more, slice_get_within, flat_map, take-append-drop}
use Rattle.px_num.proofs.Basics.{get_or_from_slice_get, flat_map-cons, get_or-flat_map, length-flat_map-take}
use Rattle.px_control.proofs.Words.{all_micros, columns_of, cycles, Device, flat_map-append, get_or-tabulate, IsAt}
use Rattle.px_control.proofs.Words.{layout_of, length-tabulate, Macro, Micro, micro_at, micros, need_of}
use Rattle.px_control.proofs.Words.{opened, rows_of, SceneView}
use Rattle.px_control.specs.Program.{array_after}

one_operation : (m : Macro) (nx ny : ℕ) → length (all_micros (m ∷ []) nx ny) ≡ cycles m nx ny
one_operation m nx ny = simp (flat_map-cons, length-append, length-tabulate) (omega arith)

-- the operations of a list one after another
pub start_more : (ms : List Macro) (nx ny k : ℕ) (m : Macro) → slice_get ms k ≡ Some m →
    length (all_micros (take (k + 1) ms) nx ny) ≡ length (all_micros (take k ms) nx ny) + cycles m nx ny
start_more ms nx ny k m e =
    let f : Macro → List Micro = λ m. micros m nx ny
    in rw (
      take_more ms k m (slice_get_within ms k m e),
      get_or_from_slice_get ms k m m e,
      flat_map-append f (take k ms) (m ∷ []),
    )
    (length-append (all_micros (take k ms) nx ny) (all_micros (m ∷ []) nx ny)
    ∙ ap (λ n. length (all_micros (take k ms) nx ny) + n) (one_operation m nx ny))

pub below_total : (ms : List Macro) (nx ny k i : ℕ) (m : Macro) → slice_get ms k ≡ Some m → i < cycles m nx ny →
    length (all_micros (take k ms) nx ny) + i < length (all_micros ms nx ny)
below_total ms nx ny k i m e h =
    let f : Macro → List Micro = λ m. micros m nx ny
    in let g = get_or_from_slice_get ms k m m e
    in let s = length-flat_map-take f ms k m (slice_get_within ms k m e)
    in omega (arith, rw (g, length-tabulate) at s)

-- micro i of operation k is the broadcast at its clock
pub micro_here : (ms : List Macro) (nx ny k i : ℕ) (m : Macro) (d : Micro) → slice_get ms k ≡ Some m
    → i < cycles m nx ny →
    get_or (all_micros ms nx ny) (length (all_micros (take k ms) nx ny) + i) d ≡ micro_at m nx ny i
micro_here ms nx ny k i m d e h =
    let f : Macro → List Micro = λ m. micros m nx ny
    in let g = get_or_from_slice_get ms k m m e
    in let w : i < length (f (get_or ms k m)) = rw (g, length-tabulate) h
    in get_or-flat_map f ms k i m d (slice_get_within ms k m e) w
    ∙ rw g (get_or-tabulate (cycles m nx ny) (micro_at m nx ny) i d h)

-- an operation begins within the micros of all
pub start_within : (ms : List Macro) (nx ny k : ℕ)
    → length (all_micros (take k ms) nx ny) ≤ length (all_micros ms nx ny)
start_within ms nx ny k =
    let f : Macro → List Micro = λ m. micros m nx ny
    in let parts = sym (ap (flat_map f) (take-append-drop k ms)) ∙ flat_map-append f (take k ms) (drop k ms)
    in omega (arith, ap length parts, length-append (all_micros (take k ms) nx ny) (all_micros (drop k ms) nx ny))

-- an array that was opened for a scene
pub at_opened : (bits : ℕ) (scene : SceneView) (device : Device) → need_of (layout_of scene) ≤ bits →
    device ≡ opened bits (columns_of scene) (rows_of scene) → IsAt bits scene 0 device
unfolding array_after
at_opened bits scene device enough is = record { enough = enough; reached = is }
