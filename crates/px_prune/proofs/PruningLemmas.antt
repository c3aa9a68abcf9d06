-- Kept products say the same.
use Rattle.px_num.proofs.Basics.{arith, ℕ, ◌≡◌, ◌<◌, ◌^◌, ◌&&◌, not, Bool, true, false, List, [], ◌∷◌}
use Rattle.px_num.proofs.Basics.{refl, sym, ◌∙◌, Option, Some, None, nat_tests, common_steps, list_all, list_any}
use Rattle.px_num.proofs.Basics.{filter, filter_map}
use Rattle.px_prune.proofs.Words.{box_of_all, Cell, CellBox, everything, has_face, has_some_cell}
use Rattle.px_prune.proofs.Words.{in_everything, is_in_box, is_void, kept_products, LawsOfSets, lies_in, meets}
use Rattle.px_prune.proofs.Words.{Product, pruned, pruned_within, set_of, solids}
use Rattle.px_normal.specs.NormalLaw.{holds, shows, some_holds, some_shows}
use Rattle.px_normal.specs.Live.{is_live}
use Rattle.px_prune.proofs.BehindLemmas.{HasCells}
use Rattle.px_prune.proofs.WithinLemmas.{in_fold, inside_has, in_or_behind, meets_cell, all_filter, any_filter}
use Rattle.px_prune.proofs.WithinLemmas.{filtered_solids, all-set_of, any-set_of, void_solids}

-- a test of a product that is kept
abbrev of_kept : (Product → Bool) → Option Product → Bool
of_kept f None = false
of_kept f (Some p) = f p

any_kept : (f : Product → Bool) (g : Product → Option Product) → ((p : Product) → of_kept f (g p) ≡ f p)
    → (ps : List Product) → list_any f (filter_map g ps) ≡ list_any f ps
any_kept f g h [] = refl
any_kept f g h (p ∷ ps) = grind (arith, any_kept f g h ps)

-- what is kept of a product holds and shows as the product
record IsSame (at : ℕ → Cell) (p : Product) (o : Option Product) : Type 0 where
  holding : of_kept (holds at) o ≡ holds at p
  showing : (n : ℕ) → of_kept (λ u. holds at u && shows at n u) o ≡ holds at p && shows at n p

module _ (laws : LawsOfSets) (boxes : ℕ → Option CellBox) (at : ℕ → Cell) (x y z : ℕ)
    (fits : HasCells boxes x y z at) where
  -- where no product holds
  none_hold : (p : Product) (o : Option Product) → of_kept (holds at) o ≡ false → holds at p ≡ false → IsSame at p o
  none_hold p None e h = record { holding = sym h; showing = λ n. rw h refl }
  none_hold p (Some u) e h = record { holding = e ∙ sym h; showing = λ n. rw (e, h) refl }

  plain_missing : (p : Product) (o : Option CellBox) → list_all (λ q. (at q).member) (solids p.plain) ≡ false
      → of_kept (holds at) (pruned_within boxes p o) ≡ false
  plain_missing p None e = refl
  plain_missing p (Some c) e = grind arith

  member_meets : (c : CellBox) → lies_in c x y z ≡ true → (q : ℕ) → meets (boxes q) c ≡ false → not (at q).member ≡ true
  member_meets c inside q apart = grind (arith, nat_tests, common_steps, meets_cell, in_or_behind)

  hidden_meets : (n : ℕ) (c : CellBox) → lies_in c x y z ≡ true → (q : ℕ) → meets (boxes q) c ≡ false
      → has_face n (at q).hidden ≡ false
  hidden_meets n c inside q apart = grind (arith, meets_cell)

  -- where all plain solids have the cell
  plain_there : (p : Product) (o : Option CellBox) → is_in_box o x y z ≡ true
      → list_all (λ q. (at q).member) (solids p.plain) ≡ true → IsSame at p (pruned_within boxes p o)
  plain_there p None i e = cc
  plain_there p (Some c) i e = step (is_void p) refl where
    step : (b : Bool) → is_void p ≡ b → IsSame at p (pruned_within boxes p (Some c))
    step true v = none_hold p (pruned_within boxes p (Some c)) (rw (inside_has x y z c i, v) refl)
        (rw (e, void_solids laws (λ q. (at q).member) p.plain p.barred e v) refl)
    step false v =
        let qs = filter (λ q. meets (boxes q) c) (solids p.barred)
        in let s = filtered_solids laws (λ q. meets (boxes q) c) p.barred
        in let same : list_all (λ q. not (at q).member) (solids (set_of qs)) ≡ list_all (λ q. not (at q).member)
        (solids p.barred)
        = all-set_of laws (λ q. not (at q).member) qs s ∙ all_filter (λ q. not (at q).member) (λ q. meets (boxes q) c)
        (member_meets c i) (solids p.barred)
        in let faces : (n : ℕ) → list_any (λ q. has_face n (at q).hidden) (solids (set_of qs))
        ≡ list_any (λ q. has_face n (at q).hidden) (solids p.barred)
        = λ n. any-set_of laws (λ q. has_face n (at q).hidden) qs s
        ∙ any_filter (λ q. has_face n (at q).hidden) (λ q. meets (boxes q) c) (hidden_meets n c i) (solids p.barred)
        in rw (inside_has x y z c i, v) (record { holding = rw same refl; showing = λ n. rw (same, faces n) refl })

  is_same : x < 2 ^ 32 → y < 2 ^ 32 → z < 2 ^ 32 → (p : Product) → IsSame at p (pruned boxes p)
  is_same hx hy hz p = step (list_all (λ q. (at q).member) (solids p.plain)) refl where
    step : (b : Bool) → list_all (λ q. (at q).member) (solids p.plain) ≡ b → IsSame at p (pruned boxes p)
    step true e = plain_there p (box_of_all boxes (solids p.plain)) (in_fold x y z boxes (λ q. (at q).member)
        fits.members (solids p.plain) (Some everything) (in_everything x y z hx hy hz) e) e
    step false e = none_hold p (pruned boxes p) (plain_missing p (box_of_all boxes (solids p.plain)) e) (rw e refl)

pub kept_holds : (laws : LawsOfSets) (boxes : ℕ → Option CellBox) (at : ℕ → Cell) (x y z : ℕ) → x < 2 ^ 32
    → y < 2 ^ 32 → z < 2 ^ 32 → HasCells boxes x y z at → (ps : List Product)
    → some_holds at (kept_products boxes ps) ≡ some_holds at ps
kept_holds laws boxes at x y z hx hy hz fits ps =
    any_kept (holds at) (pruned boxes) (λ p. (is_same laws boxes at x y z fits hx hy hz p).holding) ps

pub kept_shows : (laws : LawsOfSets) (boxes : ℕ → Option CellBox) (at : ℕ → Cell) (x y z : ℕ) → x < 2 ^ 32
    → y < 2 ^ 32 → z < 2 ^ 32 → HasCells boxes x y z at → (ps : List Product) (n : ℕ)
    → some_shows at n (kept_products boxes ps) ≡ some_shows at n ps
kept_shows laws boxes at x y z hx hy hz fits ps n = any_kept (λ u. holds at u && shows at n u) (pruned boxes)
    (λ p. (is_same laws boxes at x y z fits hx hy hz p).showing n) ps

-- of a product that is not live nothing is kept
module _ (boxes : ℕ → Option CellBox) where
  dead : (p : Product) → is_live boxes p ≡ false → pruned boxes p ≡ None
  unfolding is_live
  dead p = by_box (box_of_all boxes (solids p.plain)) where
    by_box : (box : Option CellBox) → not (is_void p) && has_some_cell box ≡ false → pruned_within boxes p box ≡ None
    by_box None e = refl
    by_box (Some part) e = grind arith

  pub kept_of_live : (ps : List Product) → kept_products boxes (filter (is_live boxes) ps) ≡ kept_products boxes ps
  kept_of_live [] = refl
  kept_of_live (p ∷ ps) = grind (arith, dead, kept_of_live ps)
