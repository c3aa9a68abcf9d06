-- Words of a heap that are fed two at a time.
use Rattle.std.proofs.Common.{tests}
use Rattle.px_num.proofs.Basics.{rules}
use Rattle.px_num.proofs.Basics.{◌≡◌, ℕ, ◌+◌, ◌-◌, ◌*◌, ◌/◌, ◌%◌, ◌<◌, ◌≤◌, Bool, true, false, cond, ◌&&◌, eqb, nat_lt}
use Rattle.px_num.proofs.Basics.{List, get_or, refl, sym, ap, subst, ◌∙◌, arith, inl, inr, bit_and, bit_or, cases_lt}
use Rattle.px_num.proofs.Basics.{agree_below_at}
use Rattle.px_plane_tree.proofs.Words.{and_at, or_at, IsDoubled, IsFed, IsFedFirst, IsFedTwo, IsFedWord, IsPart}
use Rattle.px_plane_tree.proofs.Words.{IsSameBut, nat_bit, parent_bit, rows}

pub moved : (line parent : ℕ → Bool) (w a b c x y z : ℕ) → a ≡ x → b ≡ y → c ≡ z → IsFedWord line parent w a b c
    → IsFedWord line parent w x y z
moved line parent w a b c x y z ea eb ec f = grind arith

module _ (line : ℕ → ℕ → Bool) (at : ℕ) (both outputs carries new_outputs new_carries : List ℕ)
    (t : IsFedTwo line at both (rows outputs carries) (rows new_outputs new_carries)) where
  -- both words have their parents in one word
  pub two_words : (parent : ℕ → Bool) → at % 2 ≡ 0 → ((i j : ℕ) → i < 2 → j < 64 → nat_bit (get_or both i 0) j
      ≡ parent (32 * i + j / 2))
      → (w : ℕ) → at ≤ w → w < at + 2 → IsFedWord (line (w - at)) parent w (get_or carries w 0)
      (get_or new_outputs w 0) (get_or new_carries w 0)
  two_words parent even bits w low high = search (rules, tests, arith) depth 8

pub pair_law : (line : Bool) (h : ℕ) (outputs carries parents first second o k new_outputs new_carries : List ℕ)
    → IsPart h outputs parents → IsDoubled (get_or parents 0 0) first → IsDoubled (get_or parents 1 0) second
    → IsFedTwo (λ i j. line) (2 * h) first (rows outputs carries) (rows o k)
    → IsFedTwo (λ i j. line) (2 * h + 2) second (rows o k) (rows new_outputs new_carries)
    → IsFed line (2 * h) (2 * h + 4) (rows outputs carries) (rows new_outputs new_carries)
pair_law line h outputs carries parents first second o k new_outputs new_carries p d1 d2 t1 t2 = record {
  fed = λ w low high. elim (cases_lt w (2 * h + 2)) [
    | inl l ↦
        let half : w / 2 ≡ h + 0 = omega arith in
        moved (λ j. line) (nat_bit (get_or outputs (w / 2) 0)) w _ _ _ _ _ _ refl (sym (t2.outputs_rest.below w l))
        (sym (t2.carries_rest.below w l))
        (two_words (λ i j. line) (2 * h) first outputs carries o k t1 (nat_bit (get_or outputs (w / 2) 0)) (omega arith)
        (λ i j a b. d1.each i j a b ∙ ap (λ n. nat_bit n (32 * i + j / 2)) (p.each 0 (omega arith)
        ∙ ap (λ n. get_or outputs n 0) (sym half))) w low l)
    | inr g ↦
        let half : w / 2 ≡ h + 1 = omega arith in
        moved (λ j. line) (nat_bit (get_or outputs (w / 2) 0)) w _ _ _ _ _ _ (t1.carries_rest.above w g) refl refl
        (two_words (λ i j. line) (2 * h + 2) second o k new_outputs new_carries t2
        (nat_bit (get_or outputs (w / 2) 0)) (omega arith)
        (λ i j a b. d2.each i j a b ∙ ap (λ n. nat_bit n (32 * i + j / 2)) (p.each 1 (omega arith)
        ∙ ap (λ n. get_or outputs n 0) (sym half))) w g (omega arith))
  ];
  outputs_rest = rest outputs o new_outputs t1.outputs_rest t2.outputs_rest;
  carries_rest = rest carries k new_carries t1.carries_rest t2.carries_rest;
}
  where
    rest : (a b c : List ℕ) → IsSameBut (2 * h) (2 * h + 2) a b → IsSameBut (2 * h + 2) (2 * h + 2 + 2) b c
        → IsSameBut (2 * h) (2 * h + 4) a c
    rest a b c p q = record {
      below = λ x l. q.below x (omega arith) ∙ p.below x l;
      above = λ x l. q.above x (omega arith) ∙ p.above x (omega arith);
    }

-- the words from `middle` on, and then those below
pub span_law : (line : Bool) (g h to : ℕ) (outputs carries o k new_outputs new_carries : List ℕ) → 2 ≤ g → h ≡ g + 2
    → h ≤ to → g % 2 ≡ 0 → IsFed line (2 * h) (2 * to) (rows outputs carries) (rows o k)
    → IsFed line (2 * g) (2 * g + 4) (rows o k) (rows new_outputs new_carries)
    → IsFed line (2 * g) (2 * to) (rows outputs carries) (rows new_outputs new_carries)
span_law line g h to outputs carries o k new_outputs new_carries two e le even a b = record {
  fed = λ w low high. elim (cases_lt w (2 * h)) [
    | inl l ↦
        let before : w / 2 < 2 * h = omega arith in
        let parent : get_or o (w / 2) 0 ≡ get_or outputs (w / 2) 0 = a.outputs_rest.below (w / 2) before in
        subst (λ n. IsFedWord (λ j. line) (nat_bit n) w (get_or carries w 0) (get_or new_outputs w 0)
        (get_or new_carries w 0)) parent
        (moved (λ j. line) (nat_bit (get_or o (w / 2) 0)) w _ _ _ _ _ _ (a.carries_rest.below w l) refl refl
        (b.fed w low (omega arith)))
    | inr r ↦
        moved (λ j. line) (nat_bit (get_or outputs (w / 2) 0)) w _ _ _ _ _ _ refl
        (sym (b.outputs_rest.above w (omega arith))) (sym (b.carries_rest.above w (omega arith))) (a.fed w r high)
  ];
  outputs_rest = rest outputs o new_outputs a.outputs_rest b.outputs_rest;
  carries_rest = rest carries k new_carries a.carries_rest b.carries_rest;
}
  where
    rest : (x y z : List ℕ) → IsSameBut (2 * h) (2 * to) x y → IsSameBut (2 * g) (2 * g + 4) y z
        → IsSameBut (2 * g) (2 * to) x z
    rest x y z p q = record {
      below = λ n l. q.below n l ∙ p.below n (omega arith);
      above = λ n l. q.above n (omega arith) ∙ p.above n l;
    }

-- ---- the first four words

from_two : (i : ℕ) → i < 64 → (nat_bit 0xffff_ffff_ffff_fffc i ≡ cond (nat_lt i 2) false true)
from_two i h = agree_below_at (λ k. nat_bit 0xffff_ffff_ffff_fffc k) (λ k. cond (nat_lt k 2) false true) 64 i refl h

bit_one : (i : ℕ) → i < 64 → nat_bit 2 i ≡ eqb i 1
bit_one i h = agree_below_at (λ k. nat_bit 2 k) (λ k. eqb k 1) 64 i refl h

one_is_low : (i : ℕ) → i < 64 → eqb i 1 ≡ (nat_lt i 2 && eqb i 1)
one_is_low i h = agree_below_at (λ k. eqb k 1) (λ k. nat_lt k 2 && eqb k 1) 64 i refl h

pub rooted_on : (word i : ℕ) → i < 64 → nat_bit (bit_or (bit_and word 0xffff_ffff_ffff_fffc) 2) i
    ≡ cond (nat_lt i 2) (true && eqb i 1) (nat_bit word i)
rooted_on word i h = grind (arith, or_at, bit_and, and_at, from_two, bit_one, one_is_low, cond)

pub rooted_off : (word i : ℕ) → i < 64 → nat_bit (bit_and word 0xffff_ffff_ffff_fffc) i
    ≡ cond (nat_lt i 2) (false && eqb i 1) (nat_bit word i)
rooted_off word i h = grind (arith, and_at, from_two, cond)

pub first_law : (lines : List ℕ) (c : Bool) (outputs carries first second part part2 o k new_outputs
    new_carries : List ℕ) (root : ℕ)
    → ((i : ℕ) → i < 64 → nat_bit root i ≡ cond (nat_lt i 2) (c && eqb i 1) (nat_bit (get_or outputs 0 0) i))
    → IsPart 0 lines part → IsPart 2 lines part2 → IsDoubled root first → IsDoubled (get_or outputs 1 0) second
    → IsFedTwo (λ i j. nat_bit (get_or part i 0) j) 0 first (rows outputs carries) (rows o k)
    → IsFedTwo (λ i j. nat_bit (get_or part2 i 0) j) 2 second (rows o k) (rows new_outputs new_carries)
    → IsFedFirst lines c (rows outputs carries) (rows new_outputs new_carries)
first_law lines c outputs carries first second part part2 o k new_outputs new_carries root r p p2 d1 d2 t1 t2 = record {
  fed = λ w high. elim (cases_lt w 2) [
    | inl l ↦
        let half : w / 2 ≡ 0 = omega arith in
        let line : get_or part (w - 0) 0 ≡ get_or lines w 0 =
        p.each (w - 0) (omega arith) ∙ ap (λ n. get_or lines n 0) (omega arith) in
        subst (λ n. IsFedWord (nat_bit n) (parent_bit c outputs (w / 2)) w (get_or carries w 0)
        (get_or new_outputs w 0) (get_or new_carries w 0)) line
        (moved (nat_bit (get_or part (w - 0) 0)) (parent_bit c outputs (w / 2)) w _ _ _ _ _ _ refl
        (sym (t2.outputs_rest.below w l)) (sym (t2.carries_rest.below w l))
        (two_words (λ i j. nat_bit (get_or part i 0) j) 0 first outputs carries o k t1
        (parent_bit c outputs (w / 2)) refl
        (λ i j a b. d1.each i j a b ∙ (r (32 * i + j / 2) (omega arith)
        ∙ ap (λ n. parent_bit c outputs n (32 * i + j / 2)) (sym half))) w (omega arith) (omega arith)))
    | inr g ↦
        let half : w / 2 ≡ 1 = omega arith in
        let line : get_or part2 (w - 2) 0 ≡ get_or lines w 0 =
        p2.each (w - 2) (omega arith) ∙ ap (λ n. get_or lines n 0) (omega arith) in
        subst (λ n. IsFedWord (nat_bit n) (parent_bit c outputs (w / 2)) w (get_or carries w 0)
        (get_or new_outputs w 0) (get_or new_carries w 0)) line
        (moved (nat_bit (get_or part2 (w - 2) 0)) (parent_bit c outputs (w / 2)) w _ _ _ _ _ _
        (t1.carries_rest.above w g) refl refl
        (two_words (λ i j. nat_bit (get_or part2 i 0) j) 2 second o k new_outputs new_carries t2
        (parent_bit c outputs (w / 2)) refl
        (λ i j a b. d2.each i j a b ∙ ap (λ n. parent_bit c outputs n (32 * i + j / 2)) (sym half)) w g (omega arith)))
  ];
  outputs_rest = grind arith;
  carries_rest = grind arith;
}
