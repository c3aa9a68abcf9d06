-- A set has no solid before its start, and none from its end on.
use Rattle.px_num.proofs.Basics.{ℕ, zero, suc, ◌≡◌, ◌<◌, ◌≤◌, ◌+◌, ◌-◌, ◌*◌, ◌^◌, false, [], refl, ap, sym, subst, ◌∙◌}
use Rattle.px_num.proofs.Basics.{arith, slice_index, add-one, filter, bit_at, cases_eq, bit_at_above, bit_at-zero}
use Rattle.px_num.proofs.Basics.{filter-append}
use Rattle.std.proofs.lemmas.List.{append-nil}
use Rattle.px_normal.specs.declared.set.SolidSet.{SolidSet}
use Rattle.px_normal.specs.Sets.{has, solids, below}

module _ (s : SolidSet) where
  abbrev word : ℕ → ℕ
  word place = slice_index s.words place

  -- no clear bit of the word at this place, and none of those below
  pub none_before : (place clear : ℕ) → ((k : ℕ) → k < place → word k ≡ 0) → clear ≤ 64
      → ((i : ℕ) → i < clear → bit_at (word place) i ≡ 0) → (q : ℕ) → q < 64 * place + clear → has s q ≡ false
  none_before place clear below most low q before = grind (arith, cases_eq, bit_at-zero)

  -- no bit of the word at this place from the used ones on, and none of those above
  pub none_past : (place used : ℕ) → ((k : ℕ) → place < k → k < 4 → word k ≡ 0) → word place < 2 ^ used
      → (q : ℕ) → q < 256 → 64 * place + used ≤ q → has s q ≡ false
  none_past place used above low q small past = grind (arith, cases_eq, bit_at_above, bit_at-zero)

  pub above_third : (k : ℕ) → 3 < k → k < 4 → word k ≡ 0
  above_third k low high = absurd (omega (arith, low, high))

  pub above_second : word 3 ≡ 0 → (k : ℕ) → 2 < k → k < 4 → word k ≡ 0
  above_second last k low high = subst (λ j. word j ≡ 0) (omega (arith, low, high)) last

  pub above_first : word 3 ≡ 0 → word 2 ≡ 0 → (k : ℕ) → 1 < k → k < 4 → word k ≡ 0
  above_first last third k low high = grind (arith, cases_eq, above_second)

  pub above_none : word 3 ≡ 0 → word 2 ≡ 0 → word 1 ≡ 0 → (k : ℕ) → 0 < k → k < 4 → word k ≡ 0
  above_none last third second k low high = grind (arith, cases_eq, above_first)

  -- a further number that is not in the set
  dropped : (n : ℕ) → has s n ≡ false → filter (has s) (below (n + 1)) ≡ filter (has s) (below n)
  dropped n e = grind (arith, add-one, filter-append, append-nil)

  -- none of those before the start is in the set
  pub none_below : (start : ℕ) → ((q : ℕ) → q < start → has s q ≡ false) → filter (has s) (below start) ≡ []
  none_below zero before = refl
  none_below (suc n) before =
      let next : suc n ≡ n + 1 = omega arith in
      ap (λ k. filter (has s) (below k)) next ∙ dropped n (before n (omega arith))
      ∙ none_below n (λ q low. before q (omega (arith, low)))

  -- those below the end are all
  pub all_below : (end : ℕ) → end ≤ 256 → ((q : ℕ) → q < 256 → end ≤ q → has s q ≡ false)
      → filter (has s) (below end) ≡ solids s
  unfolding solids
  all_below end most past =
      let whole : end + (256 - end) ≡ 256 = omega (arith, most) in
      sym (along (256 - end) (omega (arith, most))) ∙ ap (λ n. filter (has s) (below n)) whole where
        along : (more : ℕ) → end + more ≤ 256 → filter (has s) (below (end + more)) ≡ filter (has s) (below end)
        along zero le = let none : end + 0 ≡ end = omega arith in ap (λ n. filter (has s) (below n)) none
        along (suc more) le =
            let next : end + suc more ≡ end + more + 1 = omega arith in
            grind (arith, dropped, along more (omega (arith, le)))
