use Rattle.px_num.proofs.Basics.{◌≡◌, ◌^◌, ◌≤◌, ℕ, arith, pow_mono, ints}
use Rattle.px_listing.proofs.limit.greatest.Goals as goal

small : (n len : ℕ) → n ≡ 2 ^ len → len ≤ 40 → n ≤ 2 ^ 40
small n len is few = let most : 2 ^ len ≤ 2 ^ 40 = pow_mono few in omega (arith, most)

pub overflow_cast-result : goal.overflow_cast-result
overflow_cast-result c = let few = small _ _ c.power.ensures c.length_of.ensures.few in omega (arith, ints, few)

pub overflow_sub-result : goal.overflow_sub-result
overflow_sub-result c = let few = small _ _ c.power.ensures c.length_of.ensures.few in omega (arith, ints, few)
