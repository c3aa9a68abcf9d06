-- The sums on the way to a leaf.
use Rattle.px_num.proofs.Basics.{◌≡◌, ℕ, zero, suc, ◌+◌, ◌-◌, ◌*◌, ◌/◌, ◌%◌, ◌^◌, ◌<◌, ◌≤◌, ◌==◌, ℤ, pos, ◌+ℤ◌, ◌*ℤ◌}
use Rattle.px_num.proofs.Basics.{cond, refl, sym, ap, ◌∙◌, arith, ints, shr-shr, mod-pow-add, div-mul-add, mod-mul-add}
use Rattle.px_num.specs.declared.linear.Linear.{Linear}
use Rattle.px_num.proofs.TruthLaws.{double_pow, lt_false, lt_true}
use Rattle.px_num.proofs.FormLaws.{times_sum}
use Rattle.px_tree.specs.Sums.{partial_sum}
use Rattle.px_tree.specs.TreeBit.{LeafSumIsValue}

-- one level down: twice as many steps of half the size, and one more where the index is odd
one_more : (v : ℤ) (i m : ℕ) → (v *ℤ pos (i / 2 * (2 * m))) +ℤ cond (i % 2 == 1) (v *ℤ pos m) (pos 0) ≡ v *ℤ pos (i * m)
one_more v i m = by_parity (i % 2) refl
  where
    by_parity : (r : ℕ) → i % 2 ≡ r → (v *ℤ pos (i / 2 * (2 * m))) +ℤ cond (r == 1) (v *ℤ pos m) (pos 0) ≡ v
        *ℤ pos (i * m)
    by_parity zero even =
        let parts : i ≡ 2 * (i / 2) = omega arith in
        let same : i / 2 * (2 * m) ≡ i * m = sym (ap (λ j. j * m) parts ∙ omega arith) in
        ap (λ n. (v *ℤ pos n) +ℤ pos 0) same ∙ omega (arith, ints)
    by_parity (suc zero) odd =
        let parts : i ≡ 2 * (i / 2) + 1 = omega arith in
        let sum : i * m ≡ i / 2 * (2 * m) + m = ap (λ j. j * m) parts ∙ omega arith in
        sym (ap (λ n. v *ℤ pos n) sum ∙ times_sum v (i / 2 * (2 * m)) m)
    by_parity (suc (suc r)) none = absurd (omega arith)

module _ (form : Linear) (nx ny : ℕ) where
  -- the levels of line a
  sum_a : (k i : ℕ) → k ≤ nx → i < 2 ^ k → partial_sum form nx ny k i ≡ (form.a *ℤ pos (i * 2 ^ (nx - k))) +ℤ form.c
  sum_a zero i in_a below = grind (arith, zero)
  sum_a (suc k) i in_a below =
      let parent : i / 2 < 2 ^ k = omega (arith, double_pow k) in
      let above : k ≤ nx = omega arith in
      let next : nx - k ≡ suc (nx - suc k) = omega arith in
      let wider : 2 ^ (nx - k) ≡ 2 * 2 ^ (nx - suc k) = ap (λ e. 2 ^ e) next ∙ double_pow (nx - suc k) in
      let before = rw wider at (sum_a k (i / 2) above parent) in
      rw (lt_false nx (suc k) in_a, before) (omega (arith, ints, one_more form.a i (2 ^ (nx - suc k))))

  -- the levels of line b
  sum_b : (j k i : ℕ) → k ≡ nx + j → j ≤ ny
      → partial_sum form nx ny k i ≡ partial_sum form nx ny nx (i / 2 ^ j)
      +ℤ (form.b *ℤ pos ((i % 2 ^ j) * 2 ^ (ny - j)))
  sum_b zero k i at_level in_b = grind (arith, zero)
  sum_b (suc j) zero i at_level in_b = absurd (omega arith)
  sum_b (suc j) (suc k) i at_level in_b =
      let above : k ≡ nx + j = omega arith in
      let in_tree : j ≤ ny = omega arith in
      let past : nx < suc k = omega arith in
      let rows : nx + ny - suc k ≡ ny - suc j = omega arith in
      let next : ny - j ≡ suc (ny - suc j) = omega arith in
      let wider : 2 ^ (ny - j) ≡ 2 * 2 ^ (ny - suc j) = ap (λ e. 2 ^ e) next ∙ double_pow (ny - suc j) in
      let after : suc j ≡ 1 + j = omega arith in
      let before : suc j ≡ j + 1 = omega arith in
      let high : i / 2 ^ suc j ≡ i / 2 / 2 ^ j = ap (λ e. i / 2 ^ e) after ∙ sym (shr-shr i 1 j) in
      let low : i % 2 ^ suc j ≡ (i / 2 % 2 ^ j) * 2 + i % 2 = ap (λ e. i % 2 ^ e) before ∙ mod-pow-add i j 1 in
      let half : i % 2 ^ suc j / 2 ≡ i / 2 % 2 ^ j = omega (arith, low) in
      let parity : i % 2 ^ suc j % 2 ≡ i % 2 = omega (arith, low) in
      let ih = rw wider at (sum_b j k (i / 2) above in_tree) in
      let more = rw (half, parity) at (one_more form.b (i % 2 ^ suc j) (2 ^ (ny - suc j))) in
      rw (lt_true nx (suc k) past, rows, high, ih) (omega (arith, ints, more))

pub leaf_sum_is_value : LeafSumIsValue
leaf_sum_is_value form nx ny x y column row =
    let high : (x * 2 ^ ny + y) / 2 ^ ny ≡ x = div-mul-add x (2 ^ ny) y row in
    let low : (x * 2 ^ ny + y) % 2 ^ ny ≡ y = mod-mul-add x (2 ^ ny) y row in
    let one_x : x * 2 ^ (nx - nx) ≡ x = grind arith in
    let one_y : y * 2 ^ (ny - ny) ≡ y = grind arith in
    let in_a = rw one_x at (sum_a form nx ny nx x (omega arith) column) in
    let in_b = rw (high, low, one_y) at (sum_b form nx ny ny (nx + ny) (x * 2 ^ ny + y) refl (omega arith)) in
    omega (arith, ints, in_a, in_b)
