-- Laws of cells and of the values that planes have there.
use Rattle.px_num.proofs.Basics.{◌≡◌, ℕ, ◌+◌, ◌-◌, ◌*◌, ◌/◌, ◌^◌, ◌<◌, ◌≤◌, ◌≤ℤ◌, ℤ, pos, true, nat_le, nat_lt}
use Rattle.px_num.proofs.Basics.{inl, inr, arith, sym, ◌∙◌, le-div_iff_mul-le, mul-le-mul, pow_mono, pow-add, pow_pos}
use Rattle.px_num.proofs.Basics.{cases_lt, nat_tests, ints}
use Rattle.px_num.proofs.TruthLaws.{le_holds, le_true}
use lib.Signed.{le_z, lt_z}
use Rattle.px_model.specs.Cells.{Depths, depths, cell_of, end_of, value_of}
use Rattle.px_model.specs.declared.limits.TheConstants.{MAX_DEPTH_BITS}

-- the first number of wholes that is not below n
up_is : (u n z : ℕ) → 0 < u → nat_le ((n + (u - 1)) / u) z ≡ nat_le n (z * u)
up_is u n z some = grind (arith, le-div_iff_mul-le, cases_lt)

-- the cell of a value is the first that is not below it
pub cell_is_first : (d : Depths) (v : ℤ) (z : ℕ) → nat_le (cell_of d v) z ≡ le_z v (pos (value_of d z))
cell_is_first d x z = grind (arith, up_is, pow_pos, nat_tests, ints)

-- and each before it is below the value
pub cell_is_least : (d : Depths) (v : ℤ) (z : ℕ) → nat_lt z (cell_of d v) ≡ lt_z (pos (value_of d z)) v
cell_is_least d v z = let same = cell_is_first d v z in grind (arith, nat_tests, ints)

-- the value of the far limit has room in the bits of a depth and of its fraction
pub end_is_small : (w f : ℕ) → (2 ^ w - 1) * 2 ^ f < 2 ^ (w + f)
end_is_small w f = grind (arith, pow-add, pow_pos)

pub end_is_within : (w f : ℕ) → w + f ≤ MAX_DEPTH_BITS → (2 ^ w - 1) * 2 ^ f < 2 ^ MAX_DEPTH_BITS
end_is_within w f few = omega (arith, end_is_small w f, pow_mono {i = w + f} {j = MAX_DEPTH_BITS} few)

at_most : (u v : ℤ) → u ≤ℤ v → le_z u v ≡ true
at_most u v h = grind (arith, ints)

at_most_holds : (u v : ℤ) → le_z u v ≡ true → u ≤ℤ v
at_most_holds u v h = grind (arith, ints)

-- a value that is not above another has no later cell
pub cells_grow : (d : Depths) (u v : ℤ) → u ≤ℤ v → cell_of d u ≤ cell_of d v
cells_grow d u v h =
    let there : v ≤ℤ pos (value_of d (cell_of d v)) =
    at_most_holds v _ (sym (cell_is_first d v (cell_of d v)) ∙ le_true (cell_of d v) (cell_of d v) (omega arith)) in
    le_holds _ _ (cell_is_first d u (cell_of d v) ∙ at_most u _ (omega (arith, ints, there)))

-- no cell of a value up to the far limit's is behind the far limit
pub cells_end : (d : Depths) (v : ℤ) → v ≤ℤ pos (end_of d) → cell_of d v ≤ d.far
cells_end d v h = le_holds (cell_of d v) d.far (cell_is_first d v d.far ∙ at_most v _ h)

-- a cell is before the far limit where its value is
pub before_end : (d : Depths) (z : ℕ) → nat_lt (value_of d z) (end_of d) ≡ nat_lt z d.far
before_end d z =
    let some : 0 < 2 ^ d.fraction_bits = pow_pos d.fraction_bits in
    elim (cases_lt z d.far) [
      | inl before ↦
          let more : (z + 1) * 2 ^ d.fraction_bits ≤ d.far * 2 ^ d.fraction_bits =
          mul-le-mul (omega arith) (omega arith) in
          grind (arith, nat_tests)
      | inr past ↦
          let more : d.far * 2 ^ d.fraction_bits ≤ z * 2 ^ d.fraction_bits = mul-le-mul (omega arith) (omega arith) in
          grind (arith, nat_tests)
    ]

-- without a fraction a value is its own cell
pub value_whole : (far z : ℕ) → value_of (depths far 0) z ≡ z
value_whole far z = omega arith

pub cell_whole : (far n : ℕ) → cell_of (depths far 0) (pos n) ≡ n
cell_whole far n = let e : n + (2 ^ 0 - 1) ≡ n = omega arith in rw e (omega arith)
