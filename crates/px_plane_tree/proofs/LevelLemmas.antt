-- A heap that is fed level by level, from the leaves upwards.
use Rattle.px_num.proofs.Basics.{◌≡◌, ◌≢◌, ℕ, suc, ◌+◌, ◌-◌, ◌*◌, ◌/◌, ◌^◌, ◌<◌, ◌≤◌, Bool, true, false, List, length}
use Rattle.px_num.proofs.Basics.{length-set, get_or, set, zero, refl, sym, ap, subst, ◌∙◌, arith, inl, inr}
use Rattle.px_num.proofs.Basics.{get_or-set_same, get_or-set_other, cases_eq, cases_lt, le-ltb, lt-ltb, pow-add}
use Rattle.px_num.proofs.Basics.{one-le-pow}
use Rattle.px_plane_tree.proofs.Words.{AreStill, double_pow, HasLines, IsAtRest, IsFed, IsFedFirst, IsFedHeap}
use Rattle.px_plane_tree.proofs.Words.{IsFedWord, IsHeap, level_line, Lines, nat_bit, parent_bit, power_grows, rows}
use Rattle.px_plane_tree.proofs.FedWordLemmas.{WordFed, node_law, place_line, same_line, same_parent, same_word}
use Rattle.px_plane_tree.proofs.FedWordLemmas.{still_heap}
use Rattle.px_plane_tree.proofs.HeapLemmas.{moved}

-- powers of a place that is written as a sum
pub power_of : (k e : ℕ) → k ≡ suc e → 2 ^ k ≡ 2 * 2 ^ e
power_of k e h = ap (λ n. 2 ^ n) h ∙ double_pow e

pub power_some : (e : ℕ) → 1 ≤ 2 ^ e
power_some e = one-le-pow e 2 (omega arith)

-- a heap's rows, with which of its levels did not move
pub record Levels : Type 0 where
  pub outputs : List ℕ
  pub carries : List ℕ
  pub still : List Bool

abbrev pub levels : (outputs carries : List ℕ) (still : List Bool) → Levels
levels outputs carries still = record { outputs = outputs; carries = carries; still = still }

-- the words below 2^(u + 1) are as they were, the others were fed, and `still` says which of the levels of these
-- stayed
pub record IsFedDown (nx : ℕ) (now : Lines) (u : ℕ) (old new : Levels) : Type 0 where
  pub fed : (w : ℕ) → 2 ^ (u + 1) ≤ w → w < length old.outputs → WordFed (place_line now.a now.b (2 ^ (nx + 1)) w) now.c
      old.outputs old.carries new.outputs new.carries w
  pub outputs_rest : (w : ℕ) → w < 2 ^ (u + 1) → get_or new.outputs w 0 ≡ get_or old.outputs w 0
  pub carries_rest : (w : ℕ) → w < 2 ^ (u + 1) → get_or new.carries w 0 ≡ get_or old.carries w 0
  pub outputs_stay : (v : ℕ) → u ≤ v → v < length old.still → get_or new.still v false ≡ true → (w : ℕ)
      → 2 ^ (v + 1) ≤ w → w < 2 ^ (v + 2) → get_or new.outputs w 0 ≡ get_or old.outputs w 0
  pub carries_stay : (v : ℕ) → u ≤ v → v < length old.still → get_or new.still v false ≡ true → (w : ℕ)
      → 2 ^ (v + 1) ≤ w → w < 2 ^ (v + 2) → get_or new.carries w 0 ≡ get_or old.carries w 0
  pub still_rest : (v : ℕ) → v < u → get_or new.still v false ≡ get_or old.still v false

-- the line of a word is that of its level
pub level_place_line : (nx : ℕ) (lines : Lines) (u w j : ℕ) → 4 ≤ w → 2 ^ (u + 1) ≤ w → w < 2 ^ (u + 2) → j < 64
    → level_line nx lines u ≡ place_line lines.a lines.b (2 ^ (nx + 1)) w j
level_place_line nx lines u w j four low high in_word =
    let six : 2 ^ (u + 7) ≡ 64 * 2 ^ (u + 1) = ap (λ n. 2 ^ n) (omega arith) ∙ pow-add 2 6 (u + 1) in
    let next : 2 ^ (u + 8) ≡ 64 * 2 ^ (u + 2) = ap (λ n. 2 ^ n) (omega arith) ∙ pow-add 2 6 (u + 2) in
    elim (cases_lt nx (u + 7)) [
      | inl in_b ↦
          let past : 2 ^ (nx + 1) ≤ 64 * w + j = omega (arith, six, power_grows (nx + 1) (u + 7) (omega arith)) in
          rw (lt-ltb nx (u + 7) in_b, le-ltb w 4 four, le-ltb (64 * w + j) (2 ^ (nx + 1)) past) refl
      | inr in_a ↦
          let before : 64 * w + j < 2 ^ (nx + 1) = omega (arith, next, power_grows (u + 8) (nx + 1) (omega arith)) in
          rw (le-ltb nx (u + 7) in_a, le-ltb w 4 four, lt-ltb (64 * w + j) (2 ^ (nx + 1)) before) refl
    ]

-- a level at rest stays so where its words and those of its parents are the same
pub rest_moved : (line : Bool) (from to : ℕ) (outputs carries new_outputs new_carries : List ℕ)
    → ((w : ℕ) → from / 2 ≤ w → w < to → get_or new_outputs w 0 ≡ get_or outputs w 0)
    → ((w : ℕ) → from ≤ w → w < to → get_or new_carries w 0 ≡ get_or carries w 0)
    → IsAtRest line from to outputs carries → IsAtRest line from to new_outputs new_carries
rest_moved line from to outputs carries new_outputs new_carries same_outputs same_carries rest = record {
  fed = λ w low high.
      subst (λ n. IsFedWord (λ j. line) (nat_bit n) w (get_or new_carries w 0) (get_or new_outputs w 0)
      (get_or new_carries w 0)) (sym (same_outputs (w / 2) (omega arith) (omega arith)))
      (moved (λ j. line) (nat_bit (get_or outputs (w / 2) 0)) w _ _ _ _ _ _ (sym (same_carries w low high))
      (sym (same_outputs w (omega arith) high)) (sym (same_carries w low high)) (rest.fed w low high));
  outputs_rest = record { below = λ k low. refl; above = λ k high. refl };
  carries_rest = record { below = λ k low. refl; above = λ k high. refl };
}

set_here : (still : List Bool) (u : ℕ) (b : Bool) → u < length still → get_or (set still u b) u false ≡ b
set_here still u b within = get_or-set_same still u b false within

set_there : (still : List Bool) (u v : ℕ) (b : Bool) → v ≢ u → get_or (set still u b) v false ≡ get_or still v false
set_there still u v b other = get_or-set_other still u v b false other

-- one more level
pub fed_more : (nx : ℕ) (now : Lines) (u : ℕ) (outputs carries : List ℕ) (still : List Bool) (o k : List ℕ)
    (s : List Bool) (new_outputs new_carries : List ℕ) (r : Bool) → 1 ≤ u → u < length still → length s ≡ length still
    → IsFedDown nx now (u + 1) (levels outputs carries still) (levels o k s)
    → IsFed (level_line nx now u) (2 * 2 ^ u) (4 * 2 ^ u) (rows o k) (rows new_outputs new_carries)
    → (r ≡ true → new_outputs ≡ o) → (r ≡ true → new_carries ≡ k)
    → IsFedDown nx now u (levels outputs carries still) (levels new_outputs new_carries (set s u r))
fed_more nx now u outputs carries still o k s new_outputs new_carries r some within long before level same_outputs
    same_carries =
    let here : 2 ^ (u + 1) ≡ 2 * 2 ^ u = power_of (u + 1) u (omega arith) in
    let next : 2 ^ (u + 2) ≡ 4 * 2 ^ u = ap (λ n. 2 ^ n) (omega arith) ∙ pow-add 2 2 u in
    let next_too : 2 ^ (u + 1 + 1) ≡ 4 * 2 ^ u = ap (λ n. 2 ^ n) (omega arith) ∙ next in
    let two : 2 ≤ 2 ^ u = power_grows 1 u some in
    record {
      fed = λ w low high. elim (cases_lt w (4 * 2 ^ u)) [
        | inl l ↦
            let parent : get_or o (w / 2) 0 ≡ get_or outputs (w / 2) 0 = before.outputs_rest (w / 2) (omega arith) in
            same_line (level_line nx now u) (place_line now.a now.b (2 ^ (nx + 1)) w) now.c outputs carries
            new_outputs new_carries w (omega arith)
            (λ j in_word. level_place_line nx now u w j (omega arith) low (omega arith) in_word)
            (subst (λ n. IsFedWord (λ j. level_line nx now u) (nat_bit n) w (get_or carries w 0)
            (get_or new_outputs w 0) (get_or new_carries w 0)) parent
            (moved (λ j. level_line nx now u) (nat_bit (get_or o (w / 2) 0)) w _ _ _ _ _ _
            (before.carries_rest w (omega arith)) refl refl (level.fed w (omega arith) l)))
        | inr g ↦
            moved (place_line now.a now.b (2 ^ (nx + 1)) w) (parent_bit now.c outputs (w / 2)) w _ _ _ _ _ _ refl
            (sym (level.outputs_rest.above w g)) (sym (level.carries_rest.above w g)) (before.fed w (omega arith) high)
      ];
      outputs_rest = λ w low. level.outputs_rest.below w (omega arith) ∙ before.outputs_rest w (omega arith);
      carries_rest = λ w low. level.carries_rest.below w (omega arith) ∙ before.carries_rest w (omega arith);
      outputs_stay = λ v low high stay w from to. elim (cases_eq v u) [
        | inl e ↦
            let stayed : r ≡ true =
            sym (set_here s u r (omega arith)) ∙ subst (λ n. get_or (set s u r) n false ≡ true) e stay in
            let below : w < 2 ^ (u + 2) = subst (λ n. w < 2 ^ (n + 2)) e to in
            ap (λ xs. get_or xs w 0) (same_outputs stayed) ∙ before.outputs_rest w (omega arith)
        | inr n ↦
            let more : 2 ^ (u + 2) ≤ 2 ^ (v + 1) = power_grows (u + 2) (v + 1) (omega arith) in
            level.outputs_rest.above w (omega arith)
            ∙ before.outputs_stay v (omega arith) high (sym (set_there s u v r n) ∙ stay) w from to
      ];
      carries_stay = λ v low high stay w from to. elim (cases_eq v u) [
        | inl e ↦
            let stayed : r ≡ true =
            sym (set_here s u r (omega arith)) ∙ subst (λ n. get_or (set s u r) n false ≡ true) e stay in
            let below : w < 2 ^ (u + 2) = subst (λ n. w < 2 ^ (n + 2)) e to in
            ap (λ xs. get_or xs w 0) (same_carries stayed) ∙ before.carries_rest w (omega arith)
        | inr n ↦
            let more : 2 ^ (u + 2) ≤ 2 ^ (v + 1) = power_grows (u + 2) (v + 1) (omega arith) in
            level.carries_rest.above w (omega arith)
            ∙ before.carries_stay v (omega arith) high (sym (set_there s u v r n) ∙ stay) w from to
      ];
      still_rest = λ v low. let other : v ≢ u = omega arith in
          set_there s u v r other ∙ before.still_rest v (omega arith);
    }

-- the level that comes next is at rest, where it and its parents were still and its line is the same
pub next_rest : (nx : ℕ) (last now : Lines) (u : ℕ) (outputs carries : List ℕ) (still : List Bool) (o k : List ℕ)
    (s : List Bool) → 1 ≤ u → u < length still → IsFedDown nx now (u + 1) (levels outputs carries still) (levels o k s)
    → AreStill nx last still outputs carries → level_line nx now u ≡ level_line nx last u
    → get_or s (u - 1) false ≡ true → get_or s u false ≡ true
    → IsAtRest (level_line nx now u) (2 * 2 ^ u) (4 * 2 ^ u) o k
next_rest nx last now u outputs carries still o k s some within before rest line above here =
    grind (arith, power_of, pow-add, rest_moved)

pub next_fits : (u n m : ℕ) → u < n → m ≡ 2 ^ (n + 1) → 4 * 2 ^ u ≤ m
next_fits u n m within levels =
    let top : 2 ^ (u + 2) ≡ 4 * 2 ^ u = ap (λ n. 2 ^ n) (omega arith) ∙ pow-add 2 2 u in
    omega (arith, top, power_grows (u + 2) (n + 1) (omega arith))

-- ---- the first four words

module _ (nx : ℕ) (now : Lines) (heads outputs carries : List ℕ) (still : List Bool) (o k : List ℕ) (s : List Bool)
    (new_outputs new_carries : List ℕ) (r : Bool)
    (heap : IsHeap outputs carries) (sized : length outputs ≡ 2 ^ (length still + 1)) (some : 1 ≤ length still)
    (long : length s ≡ length still) (lines : HasLines now.a now.b (2 ^ (nx + 1)) heads)
    (before : IsFedDown nx now 1 (levels outputs carries still) (levels o k s))
    (first : IsFedFirst heads now.c (rows o k) (rows new_outputs new_carries)) where
  head : (w : ℕ) → w < 4 → WordFed (place_line now.a now.b (2 ^ (nx + 1)) w) now.c outputs carries new_outputs
      new_carries w
  head w low =
      let fed = subst (λ n. IsFedWord (nat_bit (get_or heads w 0)) (parent_bit now.c o (w / 2)) w n
      (get_or new_outputs w 0) (get_or new_carries w 0)) (before.carries_rest w low) (first.fed w low) in
      let parent : get_or o (w / 2) 0 ≡ get_or outputs (w / 2) 0 = before.outputs_rest (w / 2) (omega arith) in
      let test = lt-ltb w 4 low in
      record {
        output_bit = λ j in_word. fed.output_bit j in_word ∙ rw (parent, lines.each w j low in_word, test) refl;
        carry_bit = λ j in_word. fed.carry_bit j in_word ∙ rw (parent, lines.each w j low in_word, test) refl;
      }

  pub all_words : (w : ℕ) → w < length outputs → WordFed (place_line now.a now.b (2 ^ (nx + 1)) w) now.c outputs
      carries new_outputs new_carries w
  all_words w within = elim (cases_lt w 4) [
    | inl l ↦ head w l
    | inr g ↦
        moved (place_line now.a now.b (2 ^ (nx + 1)) w) (parent_bit now.c outputs (w / 2)) w _ _ _ _ _ _ refl
        (sym (first.outputs_rest.above w g)) (sym (first.carries_rest.above w g)) (before.fed w g within)
  ]

  pub fed_heap : length new_outputs ≡ length outputs → length new_carries ≡ length carries
      → IsFedHeap now.a now.b now.c (2 ^ (nx + 1)) (rows outputs carries) (rows new_outputs new_carries)
  fed_heap long_outputs long_carries = record {
    heap = still_heap now.a now.b now.c (2 ^ (nx + 1)) outputs carries new_outputs new_carries heap all_words
        long_outputs long_carries;
    node = node_law now.a now.b now.c (2 ^ (nx + 1)) outputs carries new_outputs new_carries heap all_words;
  }

  module _ (second : r ≡ true → get_or new_outputs 2 0 ≡ get_or o 2 0) (third : r ≡ true → get_or new_outputs 3 0
      ≡ get_or o 3 0) where
    kept_outputs : (v w : ℕ) → v < length still → get_or (set s 0 r) v false ≡ true → 2 ^ (v + 1) ≤ w
        → w < 2 ^ (v + 2) → get_or new_outputs w 0 ≡ get_or outputs w 0
    kept_outputs zero w within stay low high =
        let stayed : r ≡ true = sym (set_here s 0 r (omega arith)) ∙ stay in
        elim (cases_lt w 3) [
          | inl l ↦ let e : w ≡ 2 = omega arith in rw e (second stayed ∙ before.outputs_rest 2 (omega arith))
          | inr g ↦ let e : w ≡ 3 = omega arith in rw e (third stayed ∙ before.outputs_rest 3 (omega arith))
        ]
    kept_outputs (suc v) w within stay low high =
        let four : 4 ≤ 2 ^ (suc v + 1) = power_grows 2 (suc v + 1) (omega arith) in
        let other : suc v ≢ 0 = omega arith in
        first.outputs_rest.above w (omega arith)
        ∙ before.outputs_stay (suc v) (omega arith) within (sym (set_there s 0 (suc v) r other) ∙ stay) w low high

    kept_carries : (v w : ℕ) → suc v < length still → get_or (set s 0 r) (suc v) false ≡ true → 2 ^ (suc v + 1) ≤ w
        → w < 2 ^ (suc v + 2) → get_or new_carries w 0 ≡ get_or carries w 0
    kept_carries v w within stay low high =
        let four : 4 ≤ 2 ^ (suc v + 1) = power_grows 2 (suc v + 1) (omega arith) in
        let other : suc v ≢ 0 = omega arith in
        first.carries_rest.above w (omega arith)
        ∙ before.carries_stay (suc v) (omega arith) within (sym (set_there s 0 (suc v) r other) ∙ stay) w low high

    pub are_still : AreStill nx now (set s 0 r) new_outputs new_carries
    are_still = record { rest = rest }
      where
        rest : (u : ℕ) → u + 1 < length (set s 0 r) → get_or (set s 0 r) (u + 1) false ≡ true → get_or (set s 0 r) u
            false ≡ true → IsAtRest (level_line nx now (u + 1)) (2 ^ (u + 2)) (2 ^ (u + 3)) new_outputs new_carries
        rest u within here above = record {
          fed = λ w low high.
              let in_still : suc u < length still = omega (arith, within, length-set s 0 r, long) in
              let half : 2 ^ (u + 2) ≡ 2 * 2 ^ (u + 1) = power_of (u + 2) (u + 1) (omega arith) in
              let next : 2 ^ (u + 3) ≡ 2 * 2 ^ (u + 2) = power_of (u + 3) (u + 2) (omega arith) in
              let first_half : 2 ^ (u + 1) ≡ 2 * 2 ^ u = power_of (u + 1) u (omega arith) in
              let up : u + 1 ≡ suc u = omega arith in
              let low_carry : 2 ^ (suc u + 1) ≡ 2 ^ (u + 2) = ap (λ n. 2 ^ n) (omega arith) in
              let high_carry : 2 ^ (suc u + 2) ≡ 2 ^ (u + 3) = ap (λ n. 2 ^ n) (omega arith) in
              let low_line : 2 ^ (u + 1 + 1) ≡ 2 ^ (u + 2) = ap (λ n. 2 ^ n) (omega arith) in
              let high_line : 2 ^ (u + 1 + 2) ≡ 2 ^ (u + 3) = ap (λ n. 2 ^ n) (omega arith) in
              let all : 2 ^ (u + 3) ≤ 2 ^ (length still + 1) = power_grows (u + 3) (length still + 1) (omega arith) in
              let parent = kept_outputs u (w / 2) (omega arith) above (omega arith) (omega arith) in
              let carry = kept_carries u w in_still (ap (λ n. get_or (set s 0 r) n false) (sym up)
              ∙ here) (omega arith) (omega arith) in
              subst (λ n. IsFedWord (λ j. level_line nx now (u + 1)) (nat_bit (get_or new_outputs (w / 2) 0)) w n
              (get_or new_outputs w 0) (get_or new_carries w 0)) (sym carry)
              (same_word _ (λ j. level_line nx now (u + 1)) _ (nat_bit (get_or new_outputs (w / 2) 0)) w _ _ _
              (λ j in_word. sym (level_place_line nx now (u + 1) w j (omega arith) (omega arith) (omega arith) in_word))
              (λ i in_word. same_parent now.c outputs (w / 2) i (omega arith) ∙ ap (λ n. nat_bit n i) (sym parent))
              (all_words w (omega (arith, sized))));
          outputs_rest = record { below = λ k low. refl; above = λ k high. refl };
          carries_rest = record { below = λ k low. refl; above = λ k high. refl };
        }
