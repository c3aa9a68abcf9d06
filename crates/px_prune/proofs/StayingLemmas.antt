-- What is kept of a product has no solid that the product has not, and none both plain and barred.
use Rattle.px_num.proofs.Basics.{ℕ, suc, zero, ◌≡◌, ◌<◌, ◌≤◌, ◌==◌, ◌||◌, ◌&&◌, nat_lt, Bool, true, false, List, []}
use Rattle.px_num.proofs.Basics.{◌∷◌, refl, sym, ◌∙◌, subst, arith, Option, Some, None, All, list_all, list_any}
use Rattle.px_num.proofs.Basics.{filter, filter_map, cases_eq, All-cons, All-nil, filter-append, list_all-append}
use Rattle.px_prune.proofs.Words.{and_right, any_last, below, box_of_all, CellBox, has, is_void, kept_products}
use Rattle.px_prune.proofs.Words.{LawsOfSets, meets, Product, pruned, pruned_within, set_of, SolidSet, staying}
use Rattle.px_normal.specs.Sets.{solids}
use Rattle.px_normal.specs.Forms.{HasPlain, HasSolidsBelow}
use Rattle.px_prune.proofs.WithinLemmas.{any-set_of, filtered_solids, is_solid}

are_solids : (f : ℕ → Bool) (n : ℕ) → n ≤ 256 → list_all is_solid (filter f (below n)) ≡ true
are_solids f zero h = refl
are_solids f (suc n) h = grind (arith, is_solid, filter-append, list_all-append, are_solids f n (omega arith))

-- a solid is among those of a set where the set has it
one_more : (n q : ℕ) (a b : Bool) → (n ≡ q → a ≡ b) → (nat_lt q n && b) || (a && (n == q)) ≡ nat_lt q (suc n) && b
one_more n q a b same = grind (arith, cases_eq)

has_below : (f : ℕ → Bool) (q n : ℕ) → list_any (λ p. p == q) (filter f (below n)) ≡ nat_lt q n && f q
has_below f q zero = grind arith
has_below f q (suc n) = grind (arith, any_last, one_more, has_below f q n)

has_any : (s : SolidSet) (q : ℕ) → q < 256 → list_any (λ p. p == q) (solids s) ≡ has s q
unfolding solids
has_any s q lt = has_below (has s) q 256 ∙ within q (has s q) lt where
  within : (q : ℕ) (b : Bool) → q < 256 → nat_lt q 256 && b ≡ b
  within q b lt = grind arith

any_of_filter : (P f : ℕ → Bool) (qs : List ℕ) → list_any P (filter f qs) ≡ true → list_any P qs ≡ true
any_of_filter P f [] e = e
any_of_filter P f (q ∷ qs) e = grind (arith, any_of_filter P f qs)

has_staying : LawsOfSets → (boxes : ℕ → Option CellBox) (part : CellBox) (barred : SolidSet) (q : ℕ) → q < 256
    → has (staying boxes part barred) q ≡ true → has barred q ≡ true
has_staying laws boxes part barred q lt h =
    let list = filter (λ p. meets (boxes p) part) (solids barred) in
    sym (has_any barred q lt)
    ∙ any_of_filter (λ p. p == q) (λ p. meets (boxes p) part) (solids barred)
    (sym (any-set_of laws (λ p. p == q) list (filtered_solids laws (λ p. meets (boxes p) part) barred))
    ∙ has_any (set_of list) q lt ∙ h)

all_solids : (s : SolidSet) → list_all is_solid (solids s) ≡ true
unfolding solids
all_solids s = are_solids (has s) 256 (omega arith)

any_fewer : (g h : ℕ → Bool) → ((q : ℕ) → q < 256 → g q ≡ true → h q ≡ true) → (qs : List ℕ)
    → list_all is_solid qs ≡ true → list_any h qs ≡ false → list_any g qs ≡ false
any_fewer g h fewer [] all none = refl
any_fewer g h fewer (q ∷ qs) all none =
    grind (arith, and_right, is_solid, any_fewer g h fewer qs (and_right (is_solid q) _ all))

record IsCut (boxes : ℕ → Option CellBox) (p u : Product) : Type 0 where
  part : CellBox
  apart : is_void p ≡ false
  is : record p { barred = staying boxes part p.barred } ≡ u

cut : (boxes : ℕ → Option CellBox) (p u : Product) (o : Option CellBox) → pruned_within boxes p o ≡ Some u
    → IsCut boxes p u
cut boxes p u None e = cc
cut boxes p u (Some part) e = grind arith

cut_apart : LawsOfSets → (boxes : ℕ → Option CellBox) (p u : Product) → IsCut boxes p u → is_void u ≡ false
cut_apart laws boxes p u c = grind (arith, any_fewer, has_staying, all_solids)

cut_below : LawsOfSets → (count : ℕ) (boxes : ℕ → Option CellBox) (p u : Product) → HasSolidsBelow count p
    → IsCut boxes p u → HasSolidsBelow count u
cut_below laws count boxes p u known c =
    subst (HasSolidsBelow count) c.is (known.0, λ q lt h. known.1 q lt (has_staying laws boxes c.part p.barred q lt h))

cut_plain : (boxes : ℕ → Option CellBox) (p u : Product) → HasPlain p → IsCut boxes p u → HasPlain u
cut_plain boxes p u plain c = subst HasPlain c.is plain

all_kept : (P Q : Product → Type 0) (g : Product → Option Product) → ((p u : Product) → P p → g p ≡ Some u → Q u)
    → (ps : List Product) → All P ps → All Q (filter_map g ps)
all_kept P Q g h [] all = All-nil Q
all_kept P Q g h (p ∷ ps) all = step (g p) refl (all_kept P Q g h ps (λ k any lt. all (suc k) any (omega arith))) where
  step : (o : Option Product) → g p ≡ o → All Q (filter_map g ps) → All Q (filter_map g (p ∷ ps))
  step None e ih = rw e ih
  step (Some u) e ih = rw e (All-cons Q u (filter_map g ps) (h p u (all 0 p (omega arith)) e) ih)

pub kept_apart : LawsOfSets → (boxes : ℕ → Option CellBox) (products : List Product)
    → All (λ product. is_void product ≡ false) (kept_products boxes products)
kept_apart laws boxes products =
    all_kept (λ _. Unit {0}) (λ product. is_void product ≡ false) (pruned boxes)
    (λ p u _ e. cut_apart laws boxes p u (cut boxes p u (box_of_all boxes (solids p.plain)) e)) products
    (λ k any lt. tt)

pub kept_below : LawsOfSets → (count : ℕ) (boxes : ℕ → Option CellBox) (products : List Product)
    → All (HasSolidsBelow count) products → All (HasSolidsBelow count) (kept_products boxes products)
kept_below laws count boxes products known =
    all_kept (HasSolidsBelow count) (HasSolidsBelow count) (pruned boxes)
    (λ p u below e. cut_below laws count boxes p u below (cut boxes p u (box_of_all boxes (solids p.plain)) e))
    products known

pub kept_plain : (boxes : ℕ → Option CellBox) (products : List Product) → All HasPlain products
    → All HasPlain (kept_products boxes products)
kept_plain boxes products plain =
    all_kept HasPlain HasPlain (pruned boxes)
    (λ p u some e. cut_plain boxes p u some (cut boxes p u (box_of_all boxes (solids p.plain)) e)) products plain
