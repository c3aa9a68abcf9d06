-- The ends of operations before and after a clock.
use Rattle.px_num.proofs.Basics.{◌≡◌, ℕ, zero, suc, ◌+◌, ◌-◌, ◌<◌, ◌≤◌, List, [], ◌∷◌, length, take, drop}
use Rattle.px_num.proofs.Basics.{filter, Option, Some, None, refl, ap, ◌∙◌, arith, length-append, add-one}
use Rattle.px_num.proofs.Basics.{slice_get, nat_lt, nat_le, drop-cons, lt-ltb, slice_get_within, get_or_from_slice_get}
use Rattle.px_num.proofs.Basics.{take_all, flat_map-cons}
use Rattle.px_control.proofs.Words.{all_micros, columns_of, cycles_in, ends_after, ends_from}
use Rattle.px_control.proofs.Words.{le_false, le_true, length-tabulate, lt_false, Macro, passes}
use Rattle.px_control.proofs.Words.{rows_of, SceneView, total}
use Rattle.px_control.specs.Program.{operation_ends, program}

-- whether the micro is one of the operation's, or the first where none is left
abbrev pub IsMicroOf : SceneView → (micro : ℕ) → Option Macro → Type 0
IsMicroOf scene micro None = micro ≡ 0
IsMicroOf scene micro (Some m) = micro < cycles_in scene m

-- where operation k of a list begins
abbrev pub start_in : SceneView → List Macro → (k : ℕ) → ℕ
start_in scene ms k = length (all_micros (take k ms) (columns_of scene) (rows_of scene))

start_cons : (scene : SceneView) (x : Macro) (xs : List Macro) (k : ℕ) → start_in scene (x ∷ xs) (suc k)
    ≡ cycles_in scene x + start_in scene xs k
start_cons scene x xs k = simp (flat_map-cons, length-append, length-tabulate)

keep_all : (scene : SceneView) (ms : List Macro) (b n : ℕ) → n < b → filter (λ e. nat_lt n e) (ends_from scene ms b)
    ≡ ends_from scene ms b
keep_all scene [] b n h = refl
keep_all scene (x ∷ xs) b n h = grind (arith, lt-ltb, keep_all scene xs (b + cycles_in scene x) n (omega arith))

micro_below : (scene : SceneView) (i : ℕ) (x : Macro) (o : Option Macro) → Some x ≡ o → IsMicroOf scene i o
    → i < cycles_in scene x
micro_below scene i x o e w = rw (← e) at w

-- the ends after a clock are those of the operations from its own on
pub ends_here : (scene : SceneView) (ms : List Macro) (k i b n : ℕ) (o : Option Macro) → slice_get ms k ≡ o
    → IsMicroOf scene i o → n ≡ b + (start_in scene ms k + i)
    → filter (λ e. nat_lt n e) (ends_from scene ms b) ≡ ends_from scene (drop k ms) (b + start_in scene ms k)
ends_here scene [] zero i b n o e w h = refl
ends_here scene [] (suc k) i b n o e w h = refl
ends_here scene (x ∷ xs) zero i b n o e w h = grind (arith, micro_below, lt-ltb, keep_all)
ends_here scene (x ∷ xs) (suc k) i b n o e w h =
    let s = start_cons scene x xs k in
    let ih = ends_here scene xs k i (b + cycles_in scene x) n o e w (omega arith) in
    let t = lt_false n (b + cycles_in scene x) (omega arith) in
    rw (t, s) (ih ∙ ap (λ z. ends_from scene (drop k xs) z) (omega arith))

none_below : (scene : SceneView) (ms : List Macro) (b n : ℕ) → n < b
    → filter (λ e. nat_le e n) (ends_from scene ms b) ≡ []
none_below scene [] b n h = refl
none_below scene (x ∷ xs) b n h = grind (arith, le_false, none_below scene xs (b + cycles_in scene x) n (omega arith))

-- as many operations have ended as stand before the clock's own
pub operation_here : (scene : SceneView) (ms : List Macro) (k i b n : ℕ) (o : Option Macro) → slice_get ms k ≡ o
    → IsMicroOf scene i o → n ≡ b + (start_in scene ms k + i) → k ≤ length ms
    → length (filter (λ e. nat_le e n) (ends_from scene ms b)) ≡ k
operation_here scene [] zero i b n o e w h l = refl
operation_here scene [] (suc k) i b n o e w h l = absurd (omega arith)
operation_here scene (x ∷ xs) zero i b n o e w h l = grind (arith, micro_below, none_below, le_false)
operation_here scene (x ∷ xs) (suc k) i b n o e w h l =
    let s = start_cons scene x xs k in
    let ih = operation_here scene xs k i (b + cycles_in scene x) n o e w (omega arith) (omega arith) in
    let t = le_true (b + cycles_in scene x) n (omega arith) in
    rw (t, ih) (omega arith)

pub start_all : (scene : SceneView) (ms : List Macro) (k : ℕ) → length ms ≤ k →
    start_in scene ms k ≡ length (all_micros ms (columns_of scene) (rows_of scene))
start_all scene ms k h = rw (take_all k ms h) refl

-- the next end is that of the operation that runs
pub next_end_here : (scene : SceneView) (ms : List Macro) (k i n e : ℕ) (m : Macro) → slice_get ms k ≡ Some m
    → i < cycles_in scene m → start_in scene ms (k + 1) ≡ start_in scene ms k + cycles_in scene m
    → IsMicroOf scene 0 (slice_get ms (k + 1)) → n ≡ start_in scene ms k + i → e ≡ n - i + cycles_in scene m
    → filter (λ x. nat_lt n x) (ends_from scene ms 0) ≡ e ∷ filter (λ x. nat_lt e x) (ends_from scene ms 0)
next_end_here scene ms k i n e m here micro more next at is =
    let l = slice_get_within ms k m here in
    let g = get_or_from_slice_get ms k m m here in
    let first : filter (λ x. nat_lt n x) (ends_from scene ms 0) ≡ ends_from scene (drop k ms)
    (0 + start_in scene ms k) =
    ends_here scene ms k i 0 n (Some m) here micro (omega arith) in
    let then : filter (λ x. nat_lt e x) (ends_from scene ms 0) ≡ ends_from scene (drop (k + 1) ms)
    (0 + start_in scene ms (k + 1)) =
    ends_here scene ms (k + 1) 0 0 e (slice_get ms (k + 1)) refl next (omega arith) in
    let d : drop k ms ≡ m ∷ drop (suc k) ms = rw g at (drop-cons ms k m l) in
    let one : e ≡ 0 + start_in scene ms k + cycles_in scene m = omega arith in
    let two : 0 + start_in scene ms (k + 1) ≡ 0 + start_in scene ms k + cycles_in scene m = omega arith in
    rw (first, then, d, two, add-one, one) refl

none_after : (scene : SceneView) (ms : List Macro) (b n : ℕ)
    → b + length (all_micros ms (columns_of scene) (rows_of scene)) ≤ n →
    filter (λ e. nat_lt n e) (ends_from scene ms b) ≡ []
none_after scene [] b n h = refl
none_after scene (x ∷ xs) b n h =
    let l : length (all_micros (x ∷ xs) (columns_of scene) (rows_of scene)) ≡ cycles_in scene x
    + length (all_micros xs (columns_of scene) (rows_of scene)) =
    simp (flat_map-cons, length-append, length-tabulate) in
    let t = lt_false n (b + cycles_in scene x) (omega arith) in
    rw t (none_after scene xs (b + cycles_in scene x) n (omega arith))

-- no operation ends after the last clock
pub none_after_all : (scene : SceneView) → ends_after scene (total scene) ≡ []
unfolding operation_ends program
none_after_all scene = grind (arith, none_after, passes)
