-- A heap of which every word was fed.
use Rattle.px_num.proofs.Basics.{rules}
use Rattle.px_num.proofs.Basics.{nat_tests, common_steps, ◌≡◌, ℕ, zero, suc, ◌+◌, ◌*◌, ◌/◌, ◌%◌, ◌<◌, ◌≤◌, Bool, true}
use Rattle.px_num.proofs.Basics.{false, cond, ◌&&◌, eqb, nat_lt, List, length, get_or, refl, sym, ap, ◌∙◌, arith, inl}
use Rattle.px_num.proofs.Basics.{inr, cases_lt, le-ltb, lt-ltb}
use Rattle.px_plane_tree.proofs.Words.{and_false, and_true, IsFedWord, IsHeap, line_at, line_bit, nat_bit, ne_eqb}
use Rattle.px_plane_tree.proofs.Words.{next_node, next_row, Node, node_of, parent_bit, row_bit}

-- ---- by words

-- word w, by the line of each of its nodes
abbrev pub WordFed : (ℕ → Bool) → Bool → List ℕ → List ℕ → List ℕ → List ℕ → ℕ → Type 0
WordFed line c outputs carries new_outputs new_carries w = IsFedWord line (parent_bit c outputs (w / 2)) w
    (get_or carries w 0) (get_or new_outputs w 0) (get_or new_carries w 0)

pub same_parent : (c : Bool) (outputs : List ℕ) (h i : ℕ) → 1 ≤ h → parent_bit c outputs h i
    ≡ nat_bit (get_or outputs h 0) i
same_parent c outputs h i l = rw (ne_eqb h 0 (λ e. omega arith)) refl

-- words from 4 on, whose line is the same
pub same_line : (line : Bool) (f : ℕ → Bool) (c : Bool) (outputs carries new_outputs new_carries : List ℕ) (w : ℕ)
    → 4 ≤ w → ((j : ℕ) → j < 64 → line ≡ f j)
    → IsFedWord (λ j. line) (nat_bit (get_or outputs (w / 2) 0)) w (get_or carries w 0) (get_or new_outputs w 0)
    (get_or new_carries w 0) → WordFed f c outputs carries new_outputs new_carries w
same_line line f c outputs carries new_outputs new_carries w l e r = record {
  output_bit = λ j h. r.output_bit j h ∙ ap (λ (n : Node). n.output) (node j h);
  carry_bit = λ j h. r.carry_bit j h ∙ ap (λ (n : Node). n.carry) (node j h);
}
  where
    node : (j : ℕ) → j < 64 → next_node (eqb (j % 2) 1) (nat_bit (get_or outputs (w / 2) 0) (32 * (w % 2) + j / 2))
        line (nat_bit (get_or carries w 0) j) ≡ next_node (eqb (j % 2) 1)
        (parent_bit c outputs (w / 2) (32 * (w % 2) + j / 2)) (f j) (nat_bit (get_or carries w 0) j)
    node j h =
        let p = same_parent c outputs (w / 2) (32 * (w % 2) + j / 2) (omega arith) in
        ap (λ (q : Bool). next_node (eqb (j % 2) 1) q line (nat_bit (get_or carries w 0) j)) (sym p)
        ∙ ap (λ (d : Bool). next_node (eqb (j % 2) 1) (parent_bit c outputs (w / 2) (32 * (w % 2) + j / 2)) d
        (nat_bit (get_or carries w 0) j)) (e j h)

-- the same lines and parents
pub same_word : (f g p q : ℕ → Bool) (w old output carry : ℕ) → ((j : ℕ) → j < 64 → f j ≡ g j)
    → ((i : ℕ) → i < 64 → p i ≡ q i) → IsFedWord f p w old output carry → IsFedWord g q w old output carry
same_word f g p q w old output carry lines parents fed = record {
  output_bit = λ j h. fed.output_bit j h ∙ rw (lines j h, parents (32 * (w % 2) + j / 2) (omega arith)) refl;
  carry_bit = λ j h. fed.carry_bit j h ∙ rw (lines j h, parents (32 * (w % 2) + j / 2) (omega arith)) refl;
}

-- the lines by places
abbrev pub place_line : Bool → Bool → ℕ → ℕ → ℕ → Bool
place_line a b first_b w j = cond (nat_lt w 4) (line_bit a b first_b (64 * w + j)) (line_at a b first_b (64 * w + j))

-- ---- by nodes

-- the line of an even node does not matter
line_free : (odd p d e k : Bool) → (odd ≡ true → d ≡ e) → next_node odd p d k ≡ next_node odd p e k
line_free true p d e k h = ap (λ (x : Bool). next_node true p x k) (h refl)
line_free false p d e k h = refl

none_next : (odd : Bool) → next_node odd false false false ≡ record { output = false; carry = false }
none_next true = refl
none_next false = refl

module _ (a b c : Bool) (first_b : ℕ) (outputs carries new_outputs new_carries : List ℕ) (heap : IsHeap outputs carries)
    (fed : (w : ℕ) → w < length outputs → WordFed (place_line a b first_b w) c outputs carries new_outputs new_carries
    w) where
  raw : (p : ℕ) → p < 64 * length outputs → node_of new_outputs new_carries p ≡ next_node (eqb (p % 2) 1)
      (parent_bit c outputs (p / 2 / 64) (p / 2 % 64)) (place_line a b first_b (p / 64) (p % 64)) (row_bit carries p)
  raw p h =
      let f = fed (p / 64) (omega arith) in
      let odd : p % 64 % 2 ≡ p % 2 = omega arith in
      let word : p / 64 / 2 ≡ p / 2 / 64 = omega arith in
      let place : 32 * (p / 64 % 2) + p % 64 / 2 ≡ p / 2 % 64 = omega arith in
      rw (← odd, ← word, ← place) (both (f.output_bit (p % 64) (omega arith)) (f.carry_bit (p % 64) (omega arith)))
    where
      both : {x y : Bool} {n : Node} → x ≡ n.output → y ≡ n.carry → record { output = x; carry = y } ≡ n
      both {x} {y} {n} h k = grind arith

  low_bits : (p : ℕ) → p < 2 → node_of outputs carries p ≡ record { output = false; carry = false }
  low_bits zero h = ap (λ (x : Bool). record { output = x; carry = row_bit carries 0 }) heap.zero_output
      ∙ ap (λ (x : Bool). record { output = false; carry = x }) (heap.odd.each 0 0 (omega arith) (let r = heap.room in
      omega arith) (omega arith) refl)
  low_bits (suc zero) h = grind arith
  low_bits (suc (suc p)) h = absurd (omega arith)

  low_law : (p : ℕ) → p < 2 → node_of new_outputs new_carries p ≡ node_of outputs carries p
  low_law p h = grind (arith, nat_tests, common_steps, and_false, lt-ltb, low_bits, raw, none_next)

  parent_law : (p : ℕ) → 2 ≤ p → parent_bit c outputs (p / 2 / 64) (p / 2 % 64) ≡ cond (nat_lt p 4) c
      (row_bit outputs (p / 2))
  parent_law p two = elim (cases_lt p 4) [
    | inl l ↦
        let zero_word : p / 2 / 64 ≡ 0 = omega arith in
        let one_place : p / 2 % 64 ≡ 1 = omega arith in
        rw (lt-ltb p 4 l, zero_word, one_place) (and_true c)
    | inr g ↦ rw (le-ltb p 4 g) (elim (cases_lt (p / 2) 64) [
      | inl l ↦ let e : p / 2 % 64 ≡ p / 2 = omega arith in
          rw (le-ltb (p / 2 % 64) 2 (omega arith)) (skipped (eqb (p / 2 / 64) 0) (c && eqb (p / 2 % 64) 1)
          (row_bit outputs (p / 2)))
      | inr r ↦ same_parent c outputs (p / 2 / 64) (p / 2 % 64) (omega arith)
    ])
  ]
    where
      skipped : (x y z : Bool) → cond (x && false) y z ≡ z
      skipped true y z = refl
      skipped false y z = refl

  line_law : (p : ℕ) → 2 ≤ p → eqb (p % 2) 1 ≡ true → place_line a b first_b (p / 64) (p % 64) ≡ line_at a b first_b p
  line_law p two odd = search rules

  pub node_law : (p : ℕ) → p < 64 * length outputs → node_of new_outputs new_carries p ≡ next_row a b c first_b
      outputs carries p
  node_law p h = search (
    rules,
    cases_lt,
    lt-ltb,
    low_law,
    le-ltb,
    raw,
    eqb,
    row_bit,
    parent_law,
    line_free,
    cond,
    nat_lt,
    line_at,
    line_law,
  )

  pub still_heap : length new_outputs ≡ length outputs → length new_carries ≡ length carries
      → IsHeap new_outputs new_carries
  still_heap lo lk = record {
    same = lk ∙ (heap.same ∙ sym lo);
    room = let r = heap.room in omega arith;
    fours = rw lo heap.fours;
    odd = grind (arith, ne_eqb);
    zero_output = ap (λ (n : Node). n.output) (low_law 0 (omega arith) ∙ low_bits 0 (omega arith));
    one_output = ap (λ (n : Node). n.output) (low_law 1 (omega arith) ∙ low_bits 1 (omega arith));
    one_carry = ap (λ (n : Node). n.carry) (low_law 1 (omega arith) ∙ low_bits 1 (omega arith));
  }
