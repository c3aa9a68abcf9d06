use Rattle.px_num.proofs.Basics.{◌≡◌, ◌≢◌, ◌∙◌, ℕ, suc, ℤ, pos, false, ◌+ℤ◌, ◌+◌, ◌*◌, ◌/◌, ◌^◌, ◌<◌, ◌≤◌, ◌%◌, []}
use Rattle.px_num.proofs.Basics.{length, get_or, get_or-set_other, get_or-set_same, length-set, replicate, sym, refl}
use Rattle.px_num.proofs.Basics.{arith, inl, inr, cases_lt, ints, to_z-of_z}
use Rattle.px_planes.proofs.Words.{bit_at, bit_of, bit_of_zero, modulo_bit, nat_bit, number_in, offset, pixel_in}
use Rattle.px_planes.proofs.Words.{row_bit, sum_bit, value_at, value_on}
use Rattle.px_planes.proofs.OperationLemmas.{stored_law}
use Rattle.px_planes.proofs.StepLemmas.{value_in_strip}
use Rattle.px_planes.proofs.StoredLemmas.{filled_bit}
use Rattle.px_planes.proofs.WorkLemmas.{bit_above, none_worked, stored_more}
use Rattle.px_planes.proofs.strips.add_to_strip.Goals as goal

pub loop-t-init : goal.loop-t-init
loop-t-init c =
    let planes = c.args.planes.now in
    let none : (q : ℕ) → q < 32768 → row_bit (replicate 512 0) q ≡ false = λ q low. filled_bit 512 0 q low
    ∙ bit_of_zero (q % 64) in
    record {
      worked = none_worked 32768 c.args.strip (length planes.enable) planes c.requires.words;
      first = none;
      second = λ p within here. none (p % 32768) (omega arith);
      first_words = refl;
      second_words = refl;
      behind = λ s i none. absurd (omega arith);
      rest = λ s past. refl;
      whole = refl;
    }

pub loop-t-preserved : goal.loop-t-preserved
loop-t-preserved c =
    let i = c.loop-t.invariant in
    let t = c.loop-t.t in
    let planes = c.args.planes.now in
    let n = length planes.enable in
    let f = c.args.field.now in
    let form = c.args.form.now in
    let ny = c.args.ny in
    let strip = c.args.strip in
    let low : t < f.len = omega (arith, c.loop-t-test.true, i.whole, c.requires.long) in
    let long : length c.loop-t.planes.enable ≡ n = i.worked.like.words.enable in
    let next : t + 1 ≡ suc t = omega arith in
    let value = λ (p : ℕ). value_at form (p / 2 ^ ny) (p % 2 ^ ny) in
    let number = λ (p : ℕ). pos (number_in f (pixel_in planes p).memory) in
    let a = get_or c.loop-t.values t [] in
    let step = offset form ny 512 in
    let first = c.loop-t.first in
    let bit = c.bit_of-bit.result in
    let is : bit ≡ bit_of step t = grind (arith, to_z-of_z) in
    let work = rw long at c.add_bit.ensures.worked in
    let second = rw long at c.add_bit.ensures.second in
    let begins : (j : ℕ) → j < 512 → nat_bit (get_or a (j / 64) 0) (j % 64) ≡ bit_of (value (512 * (64 * strip) + j))
    t =
    λ j small. rw (i.rest t (omega arith)) (c.requires.values.each t j low small) in
    let in_strip = value_in_strip form ny strip t a first c.requires.rows begins i.first in
    let value_bit : (q : ℕ) → q < 32768 → value_on a bit first q ≡ bit_of (value (32768 * strip + q)) t =
    λ q within.
    let place : 512 * (64 * strip + q / 512) + q % 512 ≡ 32768 * strip + q = omega arith in
    let few : q / 512 ≤ 64 = omega arith in
    let small : q % 512 < 512 = omega arith in
    rw is (rw place at (in_strip (q / 512) (q % 512) few small)) in
    let value_here : (p : ℕ) → p / 32768 ≡ strip → value_on a bit first (p % 32768) ≡ bit_of (value p) t =
    λ p here.
    let place : 32768 * strip + p % 32768 ≡ p = omega arith in
    let within : p % 32768 < 32768 = omega arith in
    rw place at (value_bit (p % 32768) within) in
    let held : (p : ℕ) → p < 64 * n → p / 32768 ≡ strip → bit_at (pixel_in c.loop-t.planes p).memory (f.at + t)
    ≡ bit_of (number p) t =
    grind (arith, bit_above) in
    record {
      worked = rw next (stored_more 32768 strip n f.at t (λ p s. bit_of (value p +ℤ number p) s) _ planes
          c.loop-t.planes c.add_bit.new.planes i.worked work
          (λ p within here.
          rw (value_here p here, held p within here, i.second p within here)
          (sym (sum_bit (value p) (number p) t))));
      first = λ q within.
          let small : q < 64 * length c.add_bit.new.first = omega (arith, c.add_bit.ensures.first_words) in
          c.add_bit.ensures.first q small
          ∙ rw (next, value_bit q within, i.first q within, is) refl;
      second = λ p within here.
          second p within here
          ∙ rw (next, value_here p here, held p within here, i.second p within here) refl;
      first_words = c.add_bit.ensures.first_words;
      second_words = c.add_bit.ensures.second_words;
      behind = λ s j below small. elim (cases_lt s t) [
        | inl before ↦
            let other : s ≢ t = omega arith in
            rw (get_or-set_other c.loop-t.values t s c.add_bit.new.value [] other) (i.behind s j before small)
        | inr past ↦
            let same : s ≡ t = omega arith in
            let in_values : t < length c.loop-t.values = omega (arith, low, i.whole, c.requires.long) in
            let place : 64 * (strip + 1) ≡ 64 * strip + 64 = omega arith in
            rw (same, get_or-set_same c.loop-t.values t c.add_bit.new.value [] in_values, place)
            (c.add_bit.ensures.value j small ∙ rw is (in_strip 64 j (omega arith) small))
      ];
      rest = grind (arith, get_or-set_other);
      whole = length-set c.loop-t.values t c.add_bit.new.value ∙ i.whole;
    }

turned : (n v : ℤ) → v +ℤ n ≡ n +ℤ v
turned n v = omega (arith, ints)

pub returns-clause-done : goal.returns-clause-done
returns-clause-done c = grind (arith, stored_law, turned, modulo_bit)
