-- Numbers that are all so many times as large: values of planes, orders, and the greater and the less of two.
use Rattle.px_num.proofs.Basics.{common_steps, ◌≡◌, ℕ, zero, suc, ◌-◌, ◌*◌, ◌<◌, ℤ, pos, negsuc, neg_ℤ, ◌+ℤ◌, ◌*ℤ◌}
use Rattle.px_num.proofs.Basics.{nat_le, nat_lt, Bool, true, false, cond, refl, ap, arith, int_max, int_min, int_eq}
use Rattle.px_num.proofs.Basics.{mul-le-mul_left, cases_lt}
use Rattle.std.proofs.Math.IntN.{*ℤ_comm}
use Rattle.std.proofs.Math.Nat.{mul-lt-mul_of_pos_left}
use lib.Signed.{lt_z, le_z}
use Rattle.px_num.specs.declared.linear.Linear.{Linear}
use Rattle.px_num.specs.Forms.{value_at}
use Rattle.px_num.proofs.FormLaws.{+ℤ-times}

abbrev pub scaled : (k : ℕ) → Linear → Linear
scaled k p = record p { c = pos k *ℤ p.c }

times_neg : (k m : ℕ) → pos k *ℤ neg_ℤ (pos m) ≡ neg_ℤ (pos (k * m))
times_neg k zero = let none : k * 0 ≡ 0 = omega arith in rw none refl
times_neg k (suc m) = refl

-- a number times a place that is k times as far
times_far : (k x : ℕ) (a : ℤ) → a *ℤ pos (k * x) ≡ pos k *ℤ (a *ℤ pos x)
times_far k x (pos n) = ap pos (let same : n * (k * x) ≡ k * (n * x) = grind arith in same)
times_far k x (negsuc n) = grind (arith, neg_ℤ, times_neg)

times_sum : (k : ℕ) (u v : ℤ) → pos k *ℤ (u +ℤ v) ≡ (pos k *ℤ u) +ℤ (pos k *ℤ v)
times_sum k u v = rw (*ℤ_comm (pos k) (u +ℤ v), *ℤ_comm (pos k) u, *ℤ_comm (pos k) v) (+ℤ-times u v k)

-- the value of a plane k times as far, its constant k times as large
pub value_scaled : (k : ℕ) (p : Linear) (x y : ℕ) → value_at (scaled k p) (k * x) (k * y) ≡ pos k *ℤ value_at p x y
value_scaled k p x y = grind (arith, times_far, times_sum)

negative : (n : ℕ) → 0 < n → neg_ℤ (pos n) ≡ negsuc (n - 1)
negative zero some = absurd (omega arith)
negative (suc n) some = ap negsuc (let same : n ≡ suc n - 1 = omega arith in same)

less_times : (k m n : ℕ) → 0 < k → m < n → k * m < k * n
less_times k m n some less = mul-lt-mul_of_pos_left less some

positive : (k n : ℕ) → 0 < k → 0 < k * suc n
positive k n some = omega (arith, less_times k 0 (suc n) some (omega arith))

nat_le_times : (k m n : ℕ) → 0 < k → nat_le (k * m) (k * n) ≡ nat_le m n
nat_le_times k m n some = grind (arith, cases_lt, less_times, mul-le-mul_left)

pub nat_lt_times : (k m n : ℕ) → 0 < k → nat_lt (k * m) (k * n) ≡ nat_lt m n
nat_lt_times k m n some = grind (arith, cases_lt, less_times, mul-le-mul_left)

pub le_times : (k : ℕ) (u v : ℤ) → 0 < k → le_z (pos k *ℤ u) (pos k *ℤ v) ≡ le_z u v
le_times k u v h = grind (arith, nat_le_times, common_steps)

pub lt_times : (k : ℕ) (u v : ℤ) → 0 < k → lt_z (pos k *ℤ u) (pos k *ℤ v) ≡ lt_z u v
lt_times k u v h = grind (arith, nat_lt_times, common_steps)

pub eq_times : (k : ℕ) (u v : ℤ) → 0 < k → int_eq (pos k *ℤ u) (pos k *ℤ v) ≡ int_eq u v
eq_times k u v some = rw (lt_times k u v some, lt_times k v u some) refl

chosen : (k : ℕ) (b : Bool) (u v : ℤ) → cond b (pos k *ℤ u) (pos k *ℤ v) ≡ pos k *ℤ cond b u v
chosen k true u v = refl
chosen k false u v = refl

pub max_times : (k : ℕ) (u v : ℤ) → 0 < k → int_max (pos k *ℤ u) (pos k *ℤ v) ≡ pos k *ℤ int_max u v
max_times k u v some = rw (lt_times k v u some) (chosen k (lt_z v u) u v)

pub min_times : (k : ℕ) (u v : ℤ) → 0 < k → int_min (pos k *ℤ u) (pos k *ℤ v) ≡ pos k *ℤ int_min u v
min_times k u v some = rw (lt_times k v u some) (chosen k (lt_z v u) v u)
