-- What is kept of a list with one element more, and of what is crossed with it.
use Rattle.px_num.proofs.Basics.{arith, ℕ, ◌≡◌, ◌<◌, ◌+◌, Bool, List, [], ◌∷◌, ◌++◌, append_assoc, ap, sym, ◌∙◌}
use Rattle.px_num.proofs.Basics.{get_or, length, take, nat_tests, common_steps, filter, take_more}
use Rattle.px_num.proofs.Basics.{filter-append}
use Rattle.px_normal.proofs.Words.{Product}

module _ (test : Product → Bool) where
  kept_more : (products : List Product) (i : ℕ) (product : Product) → i < length products
      → filter test (take (i + 1) products)
      ≡ filter test (take i products) ++ filter test (get_or products i product ∷ [])
  kept_more products i product within = grind (arith, nat_tests, common_steps, take_more, filter-append)

  appended : (start before now kept one all : List Product) → now ≡ before ++ one → before ≡ start ++ kept
      → all ≡ kept ++ one → now ≡ start ++ all
  appended start before now kept one all added known more =
      added ∙ rw known (append_assoc start kept one) ∙ ap (λ list. start ++ list) (sym more)

  -- the step of a loop that adds what is kept
  pub added : (start before now products : List Product) (i : ℕ) (product : Product) → i < length products
      → now ≡ before ++ filter test (get_or products i product ∷ [])
      → before ≡ start ++ filter test (take i products) → now ≡ start ++ filter test (take (i + 1) products)
  added start before now products i product within one known =
      appended start before now _ _ _ one known (kept_more products i product within)
