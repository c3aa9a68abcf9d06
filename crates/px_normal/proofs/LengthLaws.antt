-- How long crossed lists are, and what a product of numbers is at least.
use Rattle.px_num.proofs.Basics.{ℕ, ◌≡◌, ◌≤◌, ◌*◌, List, [], ◌∷◌, length, arith, map, length-append, mul-le-mul}
use Rattle.px_num.proofs.Basics.{length-map}
use Rattle.px_normal.proofs.Words.{both, crossed, Product}

pub length-crossed : (ps qs : List Product) → length (crossed ps qs) ≡ length ps * length qs
length-crossed [] qs = grind arith
length-crossed (p ∷ ps) qs =
    grind (arith, length-append (map (both p) qs) (crossed ps qs), length-map qs (both p), length-crossed ps qs)

pub at_least : (k x y : ℕ) → k ≤ x → 1 ≤ y → k ≤ x * y
at_least k x y p q = omega (arith, mul-le-mul {n₁ = k} {m₁ = 1} {n₂ = x} {m₂ = y} p q)
