-- Laws of the values of linear forms.
use Rattle.px_num.proofs.Basics.{nat_tests, common_steps, ◌≡◌, ℕ, zero, suc, ◌+◌, ◌-◌, ◌*◌, ◌^◌, ◌≤◌, ℤ, pos, negsuc}
use Rattle.px_num.proofs.Basics.{◌+ℤ◌, ◌-ℤ◌, ◌*ℤ◌, arith, *ℤ-zero, mul-le-mul, ints}
use Rattle.px_num.specs.declared.linear.Linear.{Linear}
use Rattle.px_num.specs.Forms.{IsInHalfRange, IsInTreeRange, IsWithin, less_one, minus, plus, value_at}

-- a greater range
pub wider : (m n : ℕ) (v : ℤ) → m ≤ n → IsWithin m v → IsWithin n v
wider m n v le (low, high) = (omega (arith, ints), omega (arith, ints))

-- one place further
pub *ℤ-suc : (z : ℤ) (x : ℕ) → z *ℤ pos (suc x) ≡ (z *ℤ pos x) +ℤ z
*ℤ-suc (pos n) x = omega (arith, ints)
*ℤ-suc (negsuc n) x = omega (arith, ints)

pub +ℤ-times : (u v : ℤ) (x : ℕ) → (u +ℤ v) *ℤ pos x ≡ (u *ℤ pos x) +ℤ (v *ℤ pos x)
+ℤ-times u v zero = omega (arith, ints, *ℤ-zero (u +ℤ v), *ℤ-zero u, *ℤ-zero v)
+ℤ-times u v (suc x) = omega (arith, ints, +ℤ-times u v x, *ℤ-suc (u +ℤ v) x, *ℤ-suc u x, *ℤ-suc v x)

pub -ℤ-times : (u v : ℤ) (x : ℕ) → (u -ℤ v) *ℤ pos x ≡ (u *ℤ pos x) -ℤ (v *ℤ pos x)
-ℤ-times u v zero = omega (arith, ints, *ℤ-zero (u -ℤ v), *ℤ-zero u, *ℤ-zero v)
-ℤ-times u v (suc x) = omega (arith, ints, -ℤ-times u v x, *ℤ-suc (u -ℤ v) x, *ℤ-suc u x, *ℤ-suc v x)

pub value_at-minus : (p q : Linear) (x y : ℕ) → value_at (minus p q) x y ≡ value_at p x y -ℤ value_at q x y
value_at-minus p q x y = omega (arith, ints, -ℤ-times p.a q.a x, -ℤ-times p.b q.b y)

pub IsInTreeRange-minus : (p q : Linear) → IsInHalfRange p → IsInHalfRange q → IsInTreeRange (minus p q)
IsInTreeRange-minus p q half_p half_q = grind (arith, nat_tests, common_steps)

pub value_at-less_one : (p : Linear) (x y : ℕ) → value_at (less_one p) x y ≡ value_at p x y -ℤ pos 1
value_at-less_one p x y = omega (arith, ints)

pub value_at-plus : (p : Linear) (n x y : ℕ) → value_at (plus p n) x y ≡ value_at p x y +ℤ pos n
value_at-plus p n x y = omega (arith, ints)

pub times_within : (a : ℤ) (x m k : ℕ) → IsWithin m a → x ≤ k → IsWithin (m * k) (a *ℤ pos x)
times_within (pos n) x m k within below = grind (arith, mul-le-mul)
times_within (negsuc n) x m k within below = grind (arith, mul-le-mul)

-- the values on a screen
pub value_within : (form : Linear) (x y : ℕ) → IsInTreeRange form → x ≤ 511 → y ≤ 511
    → IsWithin (2 ^ 39 - 1) (value_at form x y)
value_within form x y range at_x at_y =
    let a = times_within form.a x (2 ^ 27) 511 range.a at_x in
    let b = times_within form.b y (2 ^ 27) 511 range.b at_y in (
      omega (arith, ints, a.0, b.0, range.c.0),
      omega (arith, ints, a.1, b.1, range.c.1),
    )

pub times_sum : (v : ℤ) (m n : ℕ) → v *ℤ pos (m + n) ≡ (v *ℤ pos m) +ℤ (v *ℤ pos n)
times_sum (pos k) m n = omega (arith, ints)
times_sum (negsuc k) m n = omega (arith, ints)
