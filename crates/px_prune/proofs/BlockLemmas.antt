-- The values of a form in a block, and blocks cut in two.
use Rattle.px_num.proofs.Basics.{ℕ, ℤ, pos, suc, ◌≡◌, ◌≤◌, ◌≤ℤ◌, ◌+ℤ◌, ◌*ℤ◌, nat_lt, Bool, true, false, refl, arith}
use Rattle.px_num.proofs.Basics.{if◌then◌else◌, mul-le-mul_left, ints}
use Rattle.px_prune.proofs.Words.{Block, has_pixel, is_one_pixel, lt_z, negsuc, value_at}
use Rattle.px_num.specs.declared.linear.Linear.{Linear}
use Rattle.px_prune.specs.Blocks.{greatest_in, least_in}

-- a multiple of a place is least at the first or at the last one, by its sign, and greatest at the other
not_below : (a : ℕ) → nat_lt a 0 ≡ false
not_below a = grind arith

low : (a : ℤ) (first last n : ℕ) → first ≤ n → n ≤ last
    → (a *ℤ pos (if lt_z a (pos 0) then last else first)) ≤ℤ (a *ℤ pos n)
low (pos a) first last n p q = rw (not_below a) (omega (arith, ints, mul-le-mul_left a p))
low (negsuc a) first last n p q = omega (arith, ints, mul-le-mul_left (suc a) q)

high : (a : ℤ) (first last n : ℕ) → first ≤ n → n ≤ last
    → (a *ℤ pos n) ≤ℤ (a *ℤ pos (if lt_z a (pos 0) then first else last))
high (pos a) first last n p q = rw (not_below a) (omega (arith, ints, mul-le-mul_left a q))
high (negsuc a) first last n p q = omega (arith, ints, mul-le-mul_left (suc a) p)

sums : (a b c d e : ℤ) → a ≤ℤ b → c ≤ℤ d → (a +ℤ c +ℤ e) ≤ℤ (b +ℤ d +ℤ e)
sums a b c d e p q = omega (arith, ints)

same : (test : Bool) (m n k : ℕ) → m ≡ k → n ≡ k → (if test then m else n) ≡ k
same true m n k e d = e
same false m n k e d = d

-- where both columns that may be chosen are one, and both rows
at_corners : (form : Linear) (s t : Bool) (m n i j : ℕ) {x y : ℕ} → m ≡ x → n ≡ x → i ≡ y → j ≡ y
    → value_at form (if s then m else n) (if t then i else j) ≡ value_at form x y
at_corners form s t m n i j {x = x} {y = y} p q u v = rw (same s m n x p q, same t i j y u v) refl

pub one_column : (b : Block) → is_one_pixel b ≡ true → b.x1 ≡ b.x0
one_column b one = grind arith

pub one_row : (b : Block) → is_one_pixel b ≡ true → b.y1 ≡ b.y0
one_row b one = grind arith

module _ (b : Block) (form : Linear) where
  module _ (x y : ℕ) (there : has_pixel b x y ≡ true) where
    from_left : b.x0 ≤ x
    from_left = grind arith

    to_right : x ≤ b.x1
    to_right = grind arith

    from_top : b.y0 ≤ y
    from_top = grind arith

    to_bottom : y ≤ b.y1
    to_bottom = grind arith

    pub least_bounds : least_in b form ≤ℤ value_at form x y
    unfolding least_in
    least_bounds = grind (arith, sums, low, to_right, from_top, to_bottom)

    pub greatest_bounds : value_at form x y ≤ℤ greatest_in b form
    unfolding greatest_in
    greatest_bounds = grind (arith, sums, high, to_right, from_top, to_bottom)

  module _ (one : is_one_pixel b ≡ true) where
    pub least_at_pixel : least_in b form ≡ value_at form b.x0 b.y0
    unfolding least_in
    least_at_pixel = at_corners form (lt_z form.a (pos 0)) (lt_z form.b (pos 0)) b.x1 b.x0 b.y1 b.y0
        (one_column b one) refl (one_row b one) refl

    pub greatest_at_pixel : greatest_in b form ≡ value_at form b.x0 b.y0
    unfolding greatest_in
    greatest_at_pixel = at_corners form (lt_z form.a (pos 0)) (lt_z form.b (pos 0)) b.x0 b.x1 b.y0 b.y1
        refl (one_column b one) refl (one_row b one)
