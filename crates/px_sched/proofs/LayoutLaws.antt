-- The layout of a scene is one.
use Rattle.px_num.proofs.Basics.{nat_tests, common_steps, ◌≡◌, ℕ, ◌+◌, ◌^◌, ◌<◌, ◌≤◌, Bool, true, false, List, ◌∷◌, []}
use Rattle.px_num.proofs.Basics.{length, nat_le, count_by, filter, length-append, refl, arith, range_with_len}
use Rattle.px_num.proofs.Basics.{count_by-le-length, length-filter, sum_by-cons, filter-append}
use Rattle.px_sched.proofs.Words.{bit_length, faces_in, faces_of, IsLawfulScene, IsLayout, layout_of, range_cut}
use Rattle.px_sched.proofs.Words.{SceneView, SolidView, some_solid}

some_face : (solids : List SolidView) → 0 < length solids → 1 ≤ faces_of solids
some_face [] some = absurd (omega (arith, some))
some_face (s ∷ ss) some = omega (arith, sum_by-cons faces_in s ss)

pub bit_length_most : (n : ℕ) → bit_length n ≤ 12
bit_length_most n = count_by-le-length (λ t. nat_le (2 ^ t) n) (range_with_len 0 12)

pub scene_layout : (scene : SceneView) → IsLawfulScene scene → IsLayout (layout_of scene)
scene_layout scene lawful = grind (arith, some_face, some_solid, bit_length_most)

count_more : (p : ℕ → Bool) (n : ℕ) → count_by p (range_with_len 0 (n + 1)) ≡ count_by p (range_with_len 0 n)
    + length (filter p (n ∷ []))
count_more p n = grind (arith, nat_tests, common_steps, length-filter, range_cut, filter-append, length-append)

pub counted : (p : ℕ → Bool) (n m : ℕ) → m ≡ count_by p (range_with_len 0 n) → p n ≡ true
    → m + 1 ≡ count_by p (range_with_len 0 (n + 1))
counted p n m is here = rw (count_more p n, is, here) refl

pub passed_over : (p : ℕ → Bool) (n m : ℕ) → m ≡ count_by p (range_with_len 0 n) → p n ≡ false
    → m ≡ count_by p (range_with_len 0 (n + 1))
passed_over p n m is here = rw (count_more p n, is, here) (omega arith)
