use Rattle.px_num.proofs.Basics.{◌≡◌, ◌∙◌, ℕ, ◌+◌, ◌*◌, ◌%◌, ◌^◌, ◌<◌, ◌≤◌, ℤ, pos, ◌+ℤ◌, ◌≤ℤ◌, Bool, true, false}
use Rattle.px_num.proofs.Basics.{if◌then◌else◌, ap, arith, w64, to_z, of_z, rules, mod-eq_of_lt, ints, to_z-of_z}
use Rattle.px_num.proofs.Basics.{pow_below, int_max, int_min}
use Rattle.px_rows.proofs.LaneWords.{IsWithin, nat_bit, offset, SFits}
use Rattle.std.proofs.lemmas.Int.{clamps}
use Rattle.px_rows.proofs.OffsetLemmas.{offset_step, offset_zero}
use Rattle.px_rows.proofs.values.span.Goals as goal

below_64 : (k : ℕ) → k < 6 → 1 * 2 ^ k % 4294967296 ≡ 2 ^ k
below_64 k low = let s : 2 ^ k < 64 = pow_below k 6 low in omega arith

pub offset_of-step-requires-clause-lane : goal.offset_of-step-requires-clause-lane
offset_of-step-requires-clause-lane c =
    rw (below_64 c.loop-k.k c.loop-k-test.true) (pow_below c.loop-k.k 6 c.loop-k-test.true)

pub overflow_add-low : goal.overflow_add-low
overflow_add-low c =
    omega (
      arith,
      ints,
      clamps,
      c.min-low.ensures.value,
      c.offset_of-step.ensures.size.0,
      c.offset_of-step.ensures.size.1,
      c.loop-k.invariant.low.0,
      c.loop-k.invariant.low.1,
    )

low_more : (low m s o n : ℤ) (b : Bool) → low ≤ℤ o → m ≤ℤ s → m ≤ℤ pos 0 → o +ℤ (if b then s else pos 0) ≡ n
    → (low +ℤ m) ≤ℤ n
low_more low m s o n true below first second sum = omega (arith, ints)
low_more low m s o n false below first second sum = omega (arith, ints)

high_more : (high m s o n : ℤ) (b : Bool) → o ≤ℤ high → s ≤ℤ m → pos 0 ≤ℤ m → o +ℤ (if b then s else pos 0) ≡ n
    → n ≤ℤ (high +ℤ m)
high_more high m s o n true above first second sum = omega (arith, ints)
high_more high m s o n false above first second sum = omega (arith, ints)

-- a sum of numbers that are small is itself
sum_is : (a b : ℤ) → IsWithin (2 ^ 42) a → IsWithin (2 ^ 42) b → to_z w64 (of_z w64 (a +ℤ to_z w64 (of_z w64 b)))
    ≡ a +ℤ b
sum_is a b (a_low, a_high) (b_low, b_high) = omega (arith, ints)

within_more : (n : ℕ) (a b : ℤ) → n < 6 → IsWithin (n * 549755813888) a → IsWithin 549755813888 b
    → IsWithin ((n + 1) * 549755813888) (a +ℤ b)
within_more n a b few (a_low, a_high) (b_low, b_high) = (omega (arith, ints), omega (arith, ints))

small : (n : ℕ) (a : ℤ) → n < 6 → IsWithin (n * 549755813888) a → IsWithin (2 ^ 42) a
small n a few (low, high) = (omega (arith, ints), omega (arith, ints))

min_within : (s m : ℤ) → m ≡ int_min s (pos 0) → IsWithin 549755813888 s → IsWithin 549755813888 m
min_within s m is (low, high) = (omega (arith, ints, clamps), omega (arith, ints, clamps))

max_within : (s m : ℤ) → m ≡ int_max s (pos 0) → IsWithin 549755813888 s → IsWithin 549755813888 m
max_within s m is (low, high) = (omega (arith, ints, clamps), omega (arith, ints, clamps))

one_small : (a : ℤ) → IsWithin 549755813888 a → IsWithin (2 ^ 42) a
one_small a (low, high) = (omega (arith, ints), omega (arith, ints))

pub loop-k-preserved : goal.loop-k-preserved
loop-k-preserved c =
    let form = c.args.form.now in
    let ny = c.args.ny in
    let k = c.loop-k.k in
    let i = c.loop-k.invariant in
    let few = c.loop-k-test.true in
    let low = to_z w64 c.loop-k.low-bits in
    let high = to_z w64 c.loop-k.high-bits in
    let s = c.offset_of-step.result in
    let fit : SFits w64 s = search rules in
    let same = to_z-of_z w64 s fit in
    let weight : s ≡ offset form ny (2 ^ k) = c.offset_of-step.ensures.value ∙ ap (offset form ny) (below_64 k few) in
    let least_is : c.min-low.result ≡ int_min s (pos 0) = rw same at c.min-low.ensures.value in
    let most_is : c.max-high.result ≡ int_max s (pos 0) = rw same at c.max-high.ensures.value in
    let m = min_within s c.min-low.result least_is c.offset_of-step.ensures.size in
    let n = max_within s c.max-high.result most_is c.offset_of-step.ensures.size in
    let low_is = sum_is low c.min-low.result (small k low few i.low) (one_small c.min-low.result m) in
    let high_is = sum_is high c.max-high.result (small k high few i.high) (one_small c.max-high.result n) in
    record {
      least = λ j below. rw low_is (low_more low c.min-low.result s (offset form ny (j % 2 ^ k))
          (offset form ny (j % 2 ^ (k + 1)))
          (nat_bit j k) (i.least j below) (rw same at c.min-low.ensures.self_bound) c.min-low.ensures.other_bound
          (rw weight (offset_step form ny j k)));
      most = λ j below. rw high_is (high_more high c.max-high.result s (offset form ny (j % 2 ^ k))
          (offset form ny (j % 2 ^ (k + 1)))
          (nat_bit j k) (i.most j below) (rw same at c.max-high.ensures.self_bound) c.max-high.ensures.other_bound
          (rw weight (offset_step form ny j k)));
      low = rw low_is (within_more k low c.min-low.result few i.low m);
      high = rw high_is (within_more k high c.max-high.result few i.high n);
    }

whole : (k j : ℕ) → 6 ≤ k → k ≤ 6 → j < 64 → j % 2 ^ k ≡ j
whole k j low high small = let e : k ≡ 6 = omega arith in rw e (mod-eq_of_lt small)

pub returns-clause-least : goal.returns-clause-least
returns-clause-least c j small =
    let e = whole c.loop-k.k j c.loop-k-test.false c.loop-k.auto.k-end small in
    rw e at (c.loop-k.invariant.least j small)

pub returns-clause-most : goal.returns-clause-most
returns-clause-most c j small =
    let e = whole c.loop-k.k j c.loop-k-test.false c.loop-k.auto.k-end small in
    rw e at (c.loop-k.invariant.most j small)

pub loop-k-init : goal.loop-k-init
loop-k-init c = grind (arith, offset_zero)
