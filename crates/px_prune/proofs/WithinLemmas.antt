-- Cells in boxes, and solids of filtered sets.
use Rattle.px_num.proofs.Basics.{rules}
use Rattle.px_num.proofs.Basics.{ℕ, ◌≡◌, ◌<◌, ◌||◌, ◌&&◌, not, nat_lt, Bool, true, false, List, [], ◌∷◌, refl, sym}
use Rattle.px_num.proofs.Basics.{◌∙◌, arith, Option, Some, None, fold, list_all, list_any, filter}
use Rattle.px_prune.proofs.Words.{and_both, and_left, and_right, and_true, CellBox, empty, has, has_cell}
use Rattle.px_prune.proofs.Words.{in_narrowed, is_in_box, LawsOfSets, lies_in, meets, narrowed}
use Rattle.px_prune.proofs.Words.{not_both, one, or_false, set_of, sets_joined, solids, SolidSet, with_cells_behind}
use Rattle.px_prune.proofs.BehindLemmas.{is_in_or_behind}

module _ (x y z : ℕ) where
  pub inside_has : (a : CellBox) → lies_in a x y z ≡ true → has_cell a ≡ true
  inside_has a p = grind arith

  inside_raised : (a : CellBox) → lies_in a x y z ≡ true → lies_in (with_cells_behind a) x y z ≡ true
  inside_raised a p = grind arith

  pub in_or_behind : (o : Option CellBox) → is_in_box o x y z ≡ true → is_in_or_behind o x y z ≡ true
  in_or_behind None p = p
  in_or_behind (Some b) p = inside_raised b p

  -- a cell in the box of each solid is in their common part
  pub in_fold : (boxes : ℕ → Option CellBox) (m : ℕ → Bool) → ((q : ℕ) → m q ≡ true → is_in_box (boxes q) x y z ≡ true)
      → (qs : List ℕ) (o : Option CellBox) → is_in_box o x y z ≡ true → list_all m qs ≡ true
      → is_in_box (fold (λ c q. narrowed c (boxes q)) o qs) x y z ≡ true
  in_fold boxes m h [] o p all = p
  in_fold boxes m h (q ∷ qs) o p all =
      in_fold boxes m h qs (narrowed o (boxes q))
      (in_narrowed x y z o (boxes q) p (h q (and_left (m q) (list_all m qs) all)))
      (and_right (m q) (list_all m qs) all)

  pub meets_cell : (o : Option CellBox) (c : CellBox) → is_in_or_behind o x y z ≡ true → lies_in c x y z ≡ true
      → meets o c ≡ true
  meets_cell o c p q = search rules

pub all_filter : (P f : ℕ → Bool) → ((q : ℕ) → f q ≡ false → P q ≡ true) → (qs : List ℕ) → list_all P (filter f qs)
    ≡ list_all P qs
all_filter P f h [] = refl
all_filter P f h (q ∷ qs) = grind (arith, all_filter P f h qs)

pub any_filter : (P f : ℕ → Bool) → ((q : ℕ) → f q ≡ false → P q ≡ false) → (qs : List ℕ) → list_any P (filter f qs)
    ≡ list_any P qs
any_filter P f h [] = refl
any_filter P f h (q ∷ qs) = grind (arith, any_filter P f h qs)

-- solids are below 256
abbrev pub is_solid : ℕ → Bool
is_solid q = nat_lt q 256

still_solids : (f : ℕ → Bool) (qs : List ℕ) → list_all is_solid qs ≡ true → list_all is_solid (filter f qs) ≡ true
still_solids f [] h = refl
still_solids f (q ∷ qs) h = grind (arith, and_right, still_solids f qs (and_right (is_solid q) _ h))

none_passes : (p : ℕ → Bool) (qs : List ℕ) → list_all (λ q. not (p q)) qs ≡ true → list_any p qs ≡ false
none_passes p [] e = refl
none_passes p (q ∷ qs) e = grind (arith, none_passes p qs)

module _ (laws : LawsOfSets) where
  pub filtered_solids : (f : ℕ → Bool) (s : SolidSet) → list_all is_solid (filter f (solids s)) ≡ true
  filtered_solids f s = grind (arith, still_solids)

  -- the solids of a set that is made of a list
  all_fold : (P : ℕ → Bool) (qs : List ℕ) (s : SolidSet) → list_all is_solid qs ≡ true
      → list_all P (solids (fold (λ s q. sets_joined s (one q)) s qs)) ≡ list_all P (solids s) && list_all P qs
  all_fold P [] s h = sym (and_true (list_all P (solids s)))
  all_fold P (q ∷ qs) s h = all_fold P qs (sets_joined s (one q)) (and_right (is_solid q) _ h)
      ∙ rw (laws.all_of_joined P s (one q), laws.all_of_one P q (below_256 q _ h))
      (and_both (list_all P (solids s)) (P q) (list_all P qs)) where
        below_256 : (q : ℕ) (b : Bool) → is_solid q && b ≡ true → q < 256
        below_256 q b e = grind arith

  any_fold : (P : ℕ → Bool) (qs : List ℕ) (s : SolidSet) → list_all is_solid qs ≡ true
      → list_any P (solids (fold (λ s q. sets_joined s (one q)) s qs)) ≡ list_any P (solids s) || list_any P qs
  any_fold P [] s h = sym (or_false (list_any P (solids s)))
  any_fold P (q ∷ qs) s h = any_fold P qs (sets_joined s (one q)) (and_right (is_solid q) _ h)
      ∙ rw (laws.some_of_joined P s (one q), laws.some_of_one P q (below_256 q _ h))
      (turned (list_any P (solids s)) (P q) (list_any P qs)) where
        below_256 : (q : ℕ) (b : Bool) → is_solid q && b ≡ true → q < 256
        below_256 q b e = grind arith

        turned : (a b c : Bool) → (a || b) || c ≡ a || (b || c)
        turned a b c = grind arith

  pub all-set_of : (P : ℕ → Bool) (qs : List ℕ) → list_all is_solid qs ≡ true → list_all P (solids (set_of qs))
      ≡ list_all P qs
  all-set_of P qs h = all_fold P qs empty h ∙ rw (laws.all_of_none P) refl

  pub any-set_of : (P : ℕ → Bool) (qs : List ℕ) → list_all is_solid qs ≡ true → list_any P (solids (set_of qs))
      ≡ list_any P qs
  any-set_of P qs h = any_fold P qs empty h ∙ rw (laws.some_of_none P) refl

  -- a solid that is plain and barred has no cell in both parts
  pub void_solids : (m : ℕ → Bool) (s t : SolidSet) → list_all m (solids s) ≡ true → list_any (has t) (solids s)
      ≡ true → list_all (λ q. not (m q)) (solids t) ≡ false
  void_solids m s t plain void = grind (arith, none_passes, not_both)
