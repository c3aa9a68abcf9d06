use Rattle.px_num.proofs.Basics.{◌≡◌, ℕ, ◌*◌, ◌%◌, ◌^◌, ◌<◌, pos, length, get_or, replicate, sym, ap, ◌∙◌, arith, to_z}
use Rattle.px_num.proofs.Basics.{of_z, mod-eq_of_lt, to_z-of_z, pow_below, get_or-replicate, length-replicate}
use Rattle.px_rows.proofs.LaneWords.{bit_of, bit_of_zero, HasValue, nat_bit}
use Rattle.px_rows.proofs.OffsetLemmas.{offset_step, offset_zero}
use Rattle.px_rows.proofs.values.offsets.Goals as goal

below_64 : (k : ℕ) → k < 6 → 1 * 2 ^ k % 4294967296 ≡ 2 ^ k
below_64 k low = grind (arith, pow_below)

zeros : (n j t : ℕ) → t < n → nat_bit (get_or (replicate n 0) t 0) j ≡ bit_of (pos 0) t
zeros n j t low = ap (λ (x : ℕ). nat_bit x j) (get_or-replicate n t 0 0 low) ∙ (bit_of_zero j ∙ sym (bit_of_zero t))

pub loop-k-init : goal.loop-k-init
loop-k-init c =
    let n = length c.args.words.now in
    let start : (j : ℕ) → HasValue (replicate n 0) j (pos 0) =
    λ j. record { each = λ t low. zeros n j t (omega (arith, low, length-replicate {A = ℕ} n 0)) } in
    let zero : c.fill.new.self ≡ replicate n 0 = c.fill.ensures.after (λ y e. e) in
    grind (arith, offset_zero, length-replicate)

pub offset_of-requires-clause-lane : goal.offset_of-requires-clause-lane
offset_of-requires-clause-lane c =
    rw (below_64 c.loop-k.k c.loop-k-test.true) (pow_below c.loop-k.k 6 c.loop-k-test.true)

pub loop-k-preserved : goal.loop-k-preserved
loop-k-preserved c = grind (arith, to_z, of_z, to_z-of_z, below_64, offset_step)

pub returns-clause-value : goal.returns-clause-value
returns-clause-value c j within =
    let end : c.loop-k.k ≡ 6 = omega arith in
    let whole : j % 2 ^ c.loop-k.k ≡ j = rw end (mod-eq_of_lt within) in
    rw whole at (c.loop-k.invariant.value j within)
