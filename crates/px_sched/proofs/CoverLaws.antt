-- The value of a face that covers a pixel: it is a depth, and the bits of one keep it.
use Rattle.px_num.proofs.Basics.{rules, common_steps, ◌≡◌, ◌<◌, ◌≤◌, ◌≤ℤ◌, ◌+◌, ◌*◌, ◌%◌, ◌^◌, ◌==◌, ℕ, ℤ, pos, Bool}
use Rattle.px_num.proofs.Basics.{true, false, ◌&&◌, nat_le, refl, ap, sym, ◌∙◌, arith, nat_tests, ints, mod-mul-add}
use Rattle.px_sched.proofs.Words.{and_left, and_right, covered_once, covers, enters_at, eqb_holds, face_count}
use Rattle.px_sched.proofs.Words.{face_plane, is_met, le_z, leaves_at, modulo, SolidView, value_at}

pub and_same : (c a b : Bool) → (c ≡ true → a ≡ b) → (c && a) ≡ (c && b)
and_same true a b h = h refl
and_same false a b h = refl

-- a value that is a depth
pub record IsDepth (v : ℤ) (end : ℕ) : Type 0 where
  pub depth : ℕ
  pub is : v ≡ pos depth
  pub below : depth ≤ end

depth_of : (v : ℤ) (end : ℕ) → pos 0 ≤ℤ v → v ≤ℤ pos end → IsDepth v end
depth_of x end low high = grind (arith, ints)

pub mod_small : (n m : ℕ) → n < m → n % m ≡ n
mod_small n m h = let e : 0 * m + n ≡ n = omega arith in ap (λ k. k % m) (sym e) ∙ mod-mul-add 0 m n h

pub no_fraction : (f : ℕ) → (f == 0) ≡ true → f ≡ 0
no_fraction f e = grind (arith, nat_tests)

pub le_same : (m n : ℕ) → nat_le m n ≡ le_z (pos m) (pos n)
le_same m n = grind (arith, nat_tests, ints)

pub at_most_is : (v : ℤ) (end bits z : ℕ) → end < 2 ^ bits → IsDepth v end → nat_le (modulo v bits) z ≡ le_z v (pos z)
at_most_is v end bits z big d =
    rw d.is (ap (λ k. nat_le k z) (mod_small d.depth (2 ^ bits) (omega (arith, d.below))) ∙ le_same d.depth z)

module _ (end : ℕ) (s : SolidView) (x y : ℕ) where
  pub enters_depth : is_met s end x y ≡ true → IsDepth (enters_at s x y) end
  enters_depth met = let in_order = (covered_once s end x y).depths met in search (rules, depth_of, ints)

  pub leaves_depth : is_met s end x y ≡ true → IsDepth (leaves_at s end x y) end
  leaves_depth met = let in_order = (covered_once s end x y).depths met in search (rules, depth_of, ints)

  -- the value of a face that covers is a depth
  pub covering_value : (i : ℕ) → i < face_count s → covers s end i x y ≡ true
      → IsDepth (value_at (face_plane s end i) x y) end
  covering_value i there c =
      let law = covered_once s end x y in
      grind (arith, common_steps, leaves_depth, and_left, eqb_holds, and_right, enters_depth)
