-- Laws of lists that are known place by place.
use Rattle.px_num.proofs.Basics.{◌≡◌, ℕ, ◌<◌, List, length, get_or, arith, same_lists, get_or_default}
use Rattle.px_num.proofs.Basics.{get_or-map-range_with_len, length-map-range_with_len}
use Rattle.px_num.specs.Lists.{tabulate}

pub length-tabulate : {A : Type 0} (n : ℕ) (f : ℕ → A) → length (tabulate n f) ≡ n
length-tabulate n f = length-map-range_with_len f 0 n

pub get_or-tabulate : {A : Type 0} (n : ℕ) (f : ℕ → A) (k : ℕ) (d : A) → k < n → get_or (tabulate n f) k d ≡ f k
get_or-tabulate n f k d within = get_or-map-range_with_len f 0 n k k d within (omega arith)

-- a list whose elements are those of a function is that function's
pub is_tabulate : {A : Type 0} (xs : List A) (n : ℕ) (f : ℕ → A) (e : A) → length xs ≡ n
    → ((k : ℕ) → k < n → get_or xs k e ≡ f k) → xs ≡ tabulate n f
is_tabulate xs n f e len each = grind (arith, same_lists, length-tabulate, get_or_default, get_or-tabulate)
