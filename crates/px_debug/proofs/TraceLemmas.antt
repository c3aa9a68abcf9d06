-- The last broadcasts.
use Rattle.px_num.proofs.Basics.{nat_tests, common_steps, ◌≡◌, ℕ, ◌+◌, ◌-◌, ◌<◌, ◌≤◌, List, [], ◌∷◌, ◌++◌, length}
use Rattle.px_num.proofs.Basics.{take, drop, Some, refl, sym, ap, ◌∙◌, append_assoc, length-append, length-drop, arith}
use Rattle.px_num.proofs.Basics.{slice_get, take-add, take_more, take-append-drop, slice_get_within}
use Rattle.px_num.proofs.Basics.{get_or_from_slice_get}
use Rattle.px_debug.proofs.Words.{get_or-drop, keep_last, length-take, Micro, SceneView}
use Rattle.std.proofs.Math.Seq.{drop-append-add}
use Rattle.px_debug.specs.Marks.{last_before}

pub keep_keep : {X : Type 0} (k : ℕ) (xs ys : List X) → keep_last k (keep_last k xs ++ ys) ≡ keep_last k (xs ++ ys)
keep_keep k xs ys =
    let d = length xs - k in
    let zs = drop d xs in
    let j = length (zs ++ ys) - k in
    let front = take d xs in
    let size : length front ≡ d = omega (arith, length-take d xs) in
    let whole : xs ++ ys ≡ front ++ (zs ++ ys) = ap (λ q. q ++ ys) (sym (take-append-drop d xs))
    ∙ append_assoc front zs ys in
    let n : length (xs ++ ys) - k ≡ length front + j =
    omega (arith, length-append xs ys, length-append zs ys, length-drop d xs) in
    sym (rw n (ap (λ q. drop (length front + j) q) whole ∙ drop-append-add front (zs ++ ys) j))

pub one_more : (p : List Micro) (a m : ℕ) (x : Micro) → slice_get p (a + m) ≡ Some x → take (m + 1) (drop a p)
    ≡ take m (drop a p) ++ x ∷ []
one_more p a m x e =
    let l = slice_get_within p (a + m) x e in
    let w : m < length (drop a p) = omega (arith, length-drop a p) in
    rw (take_more (drop a p) m x w, get_or-drop, get_or_from_slice_get p (a + m) x x e) refl

pub one : (p : List Micro) (a : ℕ) (x : Micro) → slice_get p a ≡ Some x → take 1 (drop a p) ≡ x ∷ []
one p a x e = let z : a + 0 ≡ a = omega arith in one_more p a 0 x (rw z e)

pub drop_drop : {X : Type 0} (p : List X) (a m : ℕ) → a ≤ length p → drop m (drop a p) ≡ drop (a + m) p
drop_drop p a m h = grind (arith, nat_tests, common_steps, length-take, take-append-drop, drop-append-add)

-- a step of a walk
pub walk_more : (k : ℕ) (ts p : List Micro) (a m : ℕ) → m + a < length p
    → keep_last k (keep_last k (ts ++ take m (drop a p)) ++ take 1 (drop (a + m) p))
    ≡ keep_last k (ts ++ take (m + 1) (drop a p))
walk_more k ts p a m h = grind (arith, keep_keep, append_assoc, take-add, drop_drop)

-- after a walk of n clocks from clock a, where the ring held the last before it
pub last_after : (k : ℕ) (p : List Micro) (a n : ℕ) → keep_last k (keep_last k (take a p) ++ take n (drop a p))
    ≡ keep_last k (take (a + n) p)
last_after k p a n = rw (keep_keep k (take a p) (take n (drop a p)), take-add) refl

-- the same from an empty ring, where the clock is 0 or the walk fills the ring
pub last_refilled : {X : Type 0} (k : ℕ) (p : List X) (a n : ℕ) → a + n ≤ length p → k ≤ n
    → keep_last k (take n (drop a p)) ≡ keep_last k (take (a + n) p)
last_refilled k p a n h f =
    let x = take a p in
    let y = take n (drop a p) in
    let ly : length y ≡ n = omega (arith, length-take n (drop a p), length-drop a p) in
    let e : length (x ++ y) - k ≡ length x + (length y - k) = omega (arith, length-append x y) in
    sym (rw (take-add a n p, e, drop-append-add) refl)

pub kept_few : {X : Type 0} (k : ℕ) (xs : List X) → length (keep_last k xs) ≤ k
kept_few k xs = omega (arith, length-drop (length xs - k) xs)

-- at the first clock there were none
pub none_before : (scene : SceneView) (now : ℕ) → now ≡ 0 → last_before scene now ≡ []
unfolding last_before
none_before scene now first = rw first refl
