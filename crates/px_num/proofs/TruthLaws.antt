-- Truths that are joined, tests of numbers, parts that may be absent, and powers of two.
use Rattle.px_num.proofs.Basics.{ℕ, suc, ℤ, pos, ◌≡◌, ◌≢◌, ◌<◌, ◌≤◌, ◌*◌, ◌^◌, ◌==◌, ◌&&◌, ◌||◌, ◌⊎◌, min, nat_lt}
use Rattle.px_num.proofs.Basics.{nat_le, eqb, Bool, true, false, not, if◌then◌else◌, List, [], ◌∷◌, length, Option}
use Rattle.px_num.proofs.Basics.{Some, None, refl, ap, ◌∙◌, arith, inl, inr, beq, filter_map, option_or, int_eq}
use Rattle.px_num.proofs.Basics.{pow-le-pow_right, nat_tests, ints, pow-add}
use lib.Signed.{lt_z, le_z}

pub and_true : (a : Bool) → a && true ≡ a
and_true true = refl
and_true false = refl

pub and_false : (a : Bool) → a && false ≡ false
and_false true = refl
and_false false = refl

pub and_both : (a b c : Bool) → (a && b) && c ≡ a && (b && c)
and_both true b c = refl
and_both false b c = refl

pub and_left : (a b : Bool) → a && b ≡ true → a ≡ true
and_left true b e = refl
and_left false b e = e

pub and_right : (a b : Bool) → a && b ≡ true → b ≡ true
and_right true b e = e
and_right false b e = cc

pub or_false : (a : Bool) → a || false ≡ a
or_false true = refl
or_false false = refl

pub or_true : (a : Bool) → a || true ≡ true
or_true true = refl
or_true false = refl

pub or_left : (a b : Bool) → a ≡ true → a || b ≡ true
or_left a b e = rw e refl

pub or_right : (a b : Bool) → b ≡ true → a || b ≡ true
or_right a b e = rw e (or_true a)

pub or_cases : (a b : Bool) → a || b ≡ true → (a ≡ true) ⊎ (b ≡ true)
or_cases true b e = inl refl
or_cases false b e = inr e

pub beq_true : (a : Bool) → beq a true ≡ a
beq_true true = refl
beq_true false = refl

pub first_of_three : (a b c : Bool) → (a && b && c) ≡ true → a ≡ true
first_of_three true b c h = refl
first_of_three false b c h = h

pub third_of_three : (a b c : Bool) → (a && b && c) ≡ true → c ≡ true
third_of_three true true c h = h
third_of_three true false c h = cc
third_of_three false b c h = cc

pub turned_from_false : (a : Bool) → (if a then not false else false) ≡ a
turned_from_false true = refl
turned_from_false false = refl

pub not_true : (a : Bool) → not a ≡ true → a ≡ false
not_true false e = refl
not_true true e = cc

pub not_false : (a : Bool) → not a ≡ false → a ≡ true
not_false true e = refl
not_false false e = cc

pub not_both : (a b : Bool) → a ≡ true → (b ≡ true → not a ≡ true) → not b ≡ true
not_both true true e apart = apart refl
not_both false true e apart = cc
not_both a false e apart = refl

pub never : (a : Bool) → a ≡ false → a ≡ true → ⊥
never a p q = cc

pub lt_true : (m n : ℕ) → m < n → nat_lt m n ≡ true
lt_true m n h = grind (arith, nat_tests)

pub lt_false : (m n : ℕ) → n ≤ m → nat_lt m n ≡ false
lt_false m n h = grind (arith, nat_tests)

pub lt_holds : (m n : ℕ) → nat_lt m n ≡ true → m < n
lt_holds m n h = grind (arith, nat_tests)

pub lt_fails : (m n : ℕ) → nat_lt m n ≡ false → n ≤ m
lt_fails m n h = grind (arith, nat_tests)

pub le_true : (m n : ℕ) → m ≤ n → nat_le m n ≡ true
le_true m n h = grind (arith, nat_tests)

pub le_false : (m n : ℕ) → n < m → nat_le m n ≡ false
le_false m n h = grind (arith, nat_tests)

pub le_holds : (m n : ℕ) → nat_le m n ≡ true → m ≤ n
le_holds m n h = grind (arith, nat_tests)

pub le_same : (n : ℕ) → nat_le n n ≡ true
le_same n = grind (arith, nat_tests)

pub same_true : (m n : ℕ) → m ≡ n → (m == n) ≡ true
same_true m n h = grind (arith, nat_tests)

pub other_false : (m n : ℕ) → m ≢ n → (m == n) ≡ false
other_false m n h = grind (arith, nat_tests)

pub itself_true : (n : ℕ) → (n == n) ≡ true
itself_true n = grind (arith, nat_tests)

pub suc_not_zero : (n : ℕ) → (suc n == 0) ≡ false
suc_not_zero n = grind (arith, nat_tests)

pub eqb_itself : (n : ℕ) → eqb n n ≡ true
eqb_itself n = grind (arith, nat_tests)

pub eqb_other : (m n : ℕ) → (m ≡ n → ⊥) → eqb m n ≡ false
eqb_other m n h = grind (arith, nat_tests)

pub eqb_holds : (m n : ℕ) → eqb m n ≡ true → m ≡ n
eqb_holds m n h = grind (arith, nat_tests)

pub min_cases : (m n : ℕ) → (min m n ≡ m) ⊎ (min m n ≡ n)
min_cases m n = grind arith

pub lt_of_ints : (m n : ℕ) → nat_lt m n ≡ lt_z (pos m) (pos n)
lt_of_ints m n = grind (arith, ints)

pub lt_is_not_le : (u v : ℤ) → lt_z v u ≡ not (le_z u v)
lt_is_not_le u v = grind (arith, ints)

pub int_same_true : (u v : ℤ) → u ≡ v → int_eq u v ≡ true
int_same_true u v h = grind (arith, ints)

pub int_eq_holds : (u v : ℤ) → int_eq u v ≡ true → u ≡ v
int_eq_holds u v h = grind (arith, ints)

-- where neither of two is there
pub none_first : {A : Type 0} (x y : Option A) → option_or x y ≡ None → x ≡ None
none_first None y e = refl
none_first (Some x) y e = cc

pub none_second : {A : Type 0} (x y : Option A) → option_or x y ≡ None → y ≡ None
none_second None y e = e
none_second (Some x) y e = cc

pub filtered_few : {A B : Type 0} (f : A → Option B) (xs : List A) → length (filter_map f xs) ≤ length xs
filtered_few f [] = omega arith
filtered_few {B = B} f (x ∷ xs) = grind (arith, filtered_few f xs)

pub double_pow : (e : ℕ) → 2 ^ suc e ≡ 2 * 2 ^ e
double_pow e = ap (λ n. 2 ^ n) (omega arith) ∙ pow-add 2 1 e

pub power_grows : (m n : ℕ) → m ≤ n → 2 ^ m ≤ 2 ^ n
power_grows m n h = pow-le-pow_right {n = 2} (omega arith) h
