-- What remains of one pixel by acts that compare two numbers, bit by bit.
use Rattle.px_num.proofs.Basics.{◌≡◌, ℕ, zero, suc, ◌+◌, ◌-◌, ◌*◌, ◌%◌, ◌^◌, ◌<◌, ◌≤◌, ℤ, pos, Bool, true, false}
use Rattle.px_num.proofs.Basics.{nat_le, nat_lt, refl, ap, ◌∙◌, arith, beq, mod-eq_of_lt, nat_tests}
use Rattle.px_asm.proofs.Words.{bits_of, BitsOfNumber, carry_from, carry_is_overflow, Field, flipped, flipped_bit}
use Rattle.px_asm.proofs.Words.{keep, kept, less_act, modulo, modulo-flipped, modulo_below, number, number_in}
use Rattle.px_asm.proofs.Words.{NumberIsBelow, PixelState}
use Rattle.px_asm.proofs.ActingLemmas.{after_acts}
use Rattle.px_asm.proofs.StoringLemmas.{two_more}
use Rattle.px_array.specs.declared.act.Act.TheVariants as act

rest_of_small : (n w : ℕ) → n < 2 ^ w → n % 2 ^ w ≡ n
rest_of_small n w below = mod-eq_of_lt below

le_by_sum : (power u n m : ℕ) → u < power → m ≡ power - 1 - u + n + 1 → nat_le power m ≡ nat_le u n
le_by_sum power u n m below sum = grind (arith, nat_tests)

-- the carry past the last bit of n and the turned bits of u says whether u is at most n
pub carry_is_at_most : (u : ℤ) (n w : ℕ) → n < 2 ^ w → carry_from true (flipped u) (pos n) w ≡ nat_le (modulo u w) n
carry_is_at_most u n w below =
    grind (arith, carry_is_overflow, flipped, le_by_sum, modulo_below, modulo-flipped, rest_of_small)

-- the acts have left memory and enable as they were, and the carry compares the lowest bits
pub record HasCompared (u : ℤ) (number n : ℕ) (p q : PixelState) : Type 0 where
  pub memory : q.memory ≡ p.memory
  pub enable : q.enable ≡ p.enable
  pub carry : q.carry ≡ carry_from true (flipped u) (pos number) n

pub kept_by_carry : (u : ℤ) (number w : ℕ) (p q : PixelState) (v test : Bool) → number < 2 ^ w
    → HasCompared u number w p q
    → beq (nat_le (modulo u w) number) v ≡ test → bits_of (kept (beq q.carry v) q) ≡ keep test (bits_of p)
kept_by_carry u number w p q v test below h says = grind (arith, carry_is_at_most)

fetch_place : (f g : Field) (n : ℕ) → n < f.len → less_act f g (suc (2 * n)) ≡ act.Fetch (g.at + n)
fetch_place f g n low = grind (arith, nat_tests)

carry_place : (f g : Field) (n : ℕ) → less_act f g (suc (suc (2 * n))) ≡ act.CarryLatch (f.at + n)
carry_place f g n = grind (arith, nat_tests)

last_place : (f g : Field) → less_act f g (suc (2 * f.len)) ≡ act.EnableCarry false
last_place f g = grind (arith, nat_tests)

pub compared_by_latch : BitsOfNumber → (f g : Field) (tree : ℕ → Bool) (n : ℕ) (p : PixelState) → n ≤ f.len
    → f.len ≡ g.len → HasCompared (pos (number_in g p.memory))
    (number_in f p.memory) n p (after_acts (less_act f g) tree (suc (2 * n)) p)
compared_by_latch bits f g tree zero p low same = record { memory = refl; enable = refl; carry = refl }
compared_by_latch bits f g tree (suc n) p low same =
    let before = compared_by_latch bits f g tree n p (omega arith) same in
    let fetched = bits g p.memory n (omega arith) in
    let here = bits f p.memory n (omega arith) in
    rw (two_more n, carry_place f g n, fetch_place f g n (omega arith))
    (record {
      memory = before.memory;
      enable = before.enable;
      carry = rw (before.memory, before.carry, flipped_bit (pos (number_in g p.memory)) n, fetched, here) refl;
    })

less_by_carry : (m n : ℕ) → beq (nat_le m n) false ≡ nat_lt n m
less_by_carry m n = grind (arith, nat_tests)

pub kept_if_less : BitsOfNumber → NumberIsBelow → (f g : Field) (tree : ℕ → Bool) (p : PixelState) → f.len ≡ g.len
    → bits_of (after_acts (less_act f g) tree (2 + 2 * f.len) p)
    ≡ keep (nat_lt (number_in f p.memory) (number_in g p.memory)) (bits_of p)
kept_if_less bits below f g tree p same =
    let q = after_acts (less_act f g) tree (suc (2 * f.len)) p in
    let count : 2 + 2 * f.len ≡ suc (suc (2 * f.len)) = omega arith in
    let compared = compared_by_latch bits f g tree f.len p (omega arith) same in
    let less : beq (nat_le (modulo (pos (number_in g p.memory)) f.len) (number_in f p.memory)) false
    ≡ nat_lt (number_in f p.memory) (number_in g p.memory) =
    grind (arith, rest_of_small, less_by_carry) in
    ap (λ i. bits_of (after_acts (less_act f g) tree i p)) count
    ∙ rw (last_place f g) (kept_by_carry (pos (number_in g p.memory)) (number_in f p.memory) f.len p q false
    (nat_lt (number_in f p.memory) (number_in g p.memory)) (below f p.memory) compared less)
