-- What the acts of the operations on a form leave of one pixel, to which the tree brings the bits of its value.
use Rattle.std.proofs.Common.{tests}
use Rattle.px_num.proofs.Basics.{◌≡◌, ℕ, zero, suc, ◌+◌, ◌<◌, ◌≤◌, ◌==◌, ℤ, pos, ◌+ℤ◌, Bool, true, false, not, length}
use Rattle.px_num.proofs.Basics.{if◌then◌else◌, nat_le, refl, ap, ◌∙◌, arith, beq, is_negative, nat_tests, ints}
use Rattle.px_asm.proofs.Words.{Act, act_at, after_act, beq_true, bit_at, bit_of, bits_of, BitsOfNumber, carry_from}
use Rattle.px_asm.proofs.Words.{Field, flipped_bit, itself_true, keep, modulo, modulo_bit, nat_bit, number_in}
use Rattle.px_asm.proofs.Words.{NumberIsBelow, PixelState, sum_bit, with_field, with_number}
use Rattle.px_asm.proofs.ActingLemmas.{after_acts, after_acts-parts, after_acts-same, after_nops}
use Rattle.px_asm.proofs.ComparingLemmas.{HasCompared, kept_by_carry}
use Rattle.px_asm.proofs.StoringLemmas.{put_by_stores, same_bits}
use Rattle.px_asm.proofs.WrittenLemmas.{IsWritten, none_written, one_written, whole_written}
use Rattle.px_array.specs.declared.act.Act.TheVariants as act

waiting_act : (levels : ℕ) (first : Act) (each : ℕ → Act) (i : ℕ) → suc i ≤ levels → act_at levels first each (suc i)
    ≡ act.Nop
waiting_act levels first each i low = grind (arith, nat_tests)

bit_act : (levels : ℕ) (first : Act) (each : ℕ → Act) (t : ℕ) → act_at levels first each (suc levels + t) ≡ each t
bit_act levels first each t = grind (arith, nat_tests)

-- while the lowest bit comes down the levels nothing happens
waiting : (levels : ℕ) (first : Act) (each : ℕ → Act) (tree : ℕ → Bool) (n : ℕ) (p : PixelState) → n ≤ levels
    → after_acts (act_at levels first each) tree (suc n) p ≡ after_act first (tree 0) p
waiting levels first each tree zero p low = refl
waiting levels first each tree (suc n) p low =
    rw (waiting_act levels first each n low) (waiting levels first each tree n p (omega arith))

-- the first act, and then one for each bit of the value
pub after_bits : (levels count len : ℕ) (first : Act) (each : ℕ → Act) (tree : ℕ → Bool) (v : ℤ) (p : PixelState)
    → count ≡ 1 + levels + len → ((t : ℕ) → t < len → tree (suc (t + levels)) ≡ bit_of v t)
    → after_acts (act_at levels first each) tree count p ≡ after_acts each (bit_of v) len (after_act first (tree 0) p)
after_bits levels count len first each tree v p total bits = grind (arith, tests, after_act, act_at, after_acts-parts, waiting, after_acts-same, bit_of, bit_act)

-- loading
pub put_by_load : (levels count : ℕ) (f : Field) (tree : ℕ → Bool) (v : ℤ) (p : PixelState) → count ≡ 1 + levels
    + f.len → f.at + f.len ≤ length p.memory
    → ((t : ℕ) → t < f.len → tree (suc (t + levels)) ≡ bit_of v t)
    → bits_of (after_acts (act_at levels act.Nop (λ t. act.StoreTree (f.at + t))) tree count p)
    ≡ with_field f (modulo v f.len) (bits_of p)
put_by_load levels count f tree v p total room bits =
    ap bits_of (after_bits levels count f.len act.Nop (λ t. act.StoreTree (f.at + t)) tree v p total bits)
    ∙ put_by_stores f (modulo v f.len) (bit_of v) (λ t. act.StoreTree (f.at + t)) (bit_of v) p room
    (λ t low. modulo_bit v f.len t low) (λ t q low. refl)

-- adding: each act leaves a bit of the sum, and the carry into the next
pub record HasAdded (v : ℤ) (f : Field) (number n : ℕ) (p q : PixelState) : Type 0 where
  pub enable : q.enable ≡ p.enable
  pub carry : q.carry ≡ carry_from false v (pos number) n
  pub written : IsWritten f.at n (bit_of (v +ℤ pos number)) p.enable p.memory q.memory

abbrev pub add_act : Field → ℕ → Act
add_act f t = act.AddTree (f.at + t)

pub added : BitsOfNumber → (f : Field) (v : ℤ) (n : ℕ) (p : PixelState) → n ≤ f.len → f.at + f.len ≤ length p.memory
    → p.carry ≡ false → HasAdded v f (number_in f p.memory) n p (after_acts (add_act f) (bit_of v) n p)
added bits f v zero p low room none = grind (arith, none_written)
added bits f v (suc n) p low room none =
    let q = after_acts (add_act f) (bit_of v) n p in
    let number = number_in f p.memory in
    let before = added bits f v n p (omega arith) room none in
    let here : bit_at q.memory (f.at + n) ≡ nat_bit number n = grind arith in
    record {
      enable = before.enable;
      carry = rw (here, before.carry) refl;
      written = rw (here, before.carry, before.enable, ← sum_bit v (pos number) n)
          (one_written f.at n (bit_of (v +ℤ pos number)) p.enable p.memory q.memory (omega arith) before.written);
    }

pub put_by_add : BitsOfNumber → (levels count : ℕ) (f : Field) (tree : ℕ → Bool) (v : ℤ) (p : PixelState)
    → count ≡ 1 + levels + f.len → f.at + f.len ≤ length p.memory
    → ((t : ℕ) → t < f.len → tree (suc (t + levels)) ≡ bit_of v t)
    → bits_of (after_acts (act_at levels (act.SetCarry false) (add_act f)) tree count p)
    ≡ with_field f (modulo (pos (number_in f p.memory) +ℤ v) f.len) (bits_of p)
put_by_add bits levels count f tree v p total room seen =
    let start : PixelState = record p { carry = false } in
    let number = number_in f p.memory in
    let end = after_acts (add_act f) (bit_of v) f.len start in
    let h = added bits f v f.len start (omega arith) room refl in
    let turned : v +ℤ pos number ≡ pos number +ℤ v = omega (arith, ints) in
    ap bits_of (after_bits levels count f.len (act.SetCarry false) (add_act f) tree v p total seen)
    ∙ same_bits p end (if p.enable then with_number f (modulo (pos number +ℤ v) f.len) p.memory else p.memory) h.enable
    (whole_written f (modulo (pos number +ℤ v) f.len) (bit_of (v +ℤ pos number)) p.enable p.memory end.memory (λ t low.
    ap (λ z. bit_of z t) turned ∙ modulo_bit (pos number +ℤ v) f.len t low) h.written)

-- comparing
abbrev pub compare_act : Field → ℕ → Act
compare_act f t = act.CarryTree (f.at + t)

pub compared_by_tree : BitsOfNumber → (f : Field) (v : ℤ) (n : ℕ) (p : PixelState) → n ≤ f.len → p.carry ≡ true
    → HasCompared v (number_in f p.memory) n p (after_acts (compare_act f) (bit_of v) n p)
compared_by_tree bits f v zero p low set = record { memory = refl; enable = refl; carry = set }
compared_by_tree bits f v (suc n) p low set =
    grind (arith, flipped_bit, compared_by_tree bits f v n p (omega arith) set)

abbrev pub at_most_act : (levels : ℕ) → Field → ℕ → Act
at_most_act levels f i =
    if i == 1 + levels + f.len then act.EnableCarry true else act_at levels (act.SetCarry true) (compare_act f) i

pub not_last : (i n : ℕ) → i < n → (i == n) ≡ false
not_last i n low = grind (arith, nat_tests)

pub kept_if_at_most : BitsOfNumber → NumberIsBelow → (levels count : ℕ) (f : Field) (tree : ℕ → Bool) (v : ℤ)
    (p : PixelState) → count ≡ suc (1 + levels + f.len)
    → ((t : ℕ) → t < f.len → tree (suc (t + levels)) ≡ bit_of v t)
    → bits_of (after_acts (at_most_act levels f) tree count p) ≡ keep (nat_le (modulo v f.len) (number_in f p.memory))
    (bits_of p)
kept_if_at_most bits below levels count f tree v p total seen =
    let last = 1 + levels + f.len in
    let start : PixelState = record p { carry = true } in
    let end = after_acts (compare_act f) (bit_of v) f.len start in
    let fed = act_at levels (act.SetCarry true) (compare_act f) in
    let plain : after_acts (at_most_act levels f) tree last p ≡ end =
    after_acts-same (at_most_act levels f) fed tree tree last p (λ i low. rw (not_last i last low) refl) (λ i low. refl)
    ∙ after_bits levels last f.len (act.SetCarry true) (compare_act f) tree v p refl seen in
    let h = compared_by_tree bits f v f.len start (omega arith) refl in
    grind (arith, itself_true, kept_by_carry, beq_true)

-- the sign
abbrev pub sign_act : (last : ℕ) → ℕ → Act
sign_act last i = if i == last then act.EnableTree false else act.Nop

not_same : (b : Bool) → beq b false ≡ not b
not_same true = refl
not_same false = refl

pub kept_by_sign : (last count : ℕ) (tree : ℕ → Bool) (v : ℤ) (p : PixelState) → count ≡ suc last
    → tree last ≡ is_negative v
    → bits_of (after_acts (sign_act last) tree count p) ≡ keep (not (is_negative v)) (bits_of p)
kept_by_sign last count tree v p total sign = grind (arith, itself_true, after_nops, not_last, not_same)
