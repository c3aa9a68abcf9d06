-- The first tile of which something is found.
use Rattle.px_num.proofs.Basics.{◌≡◌, ℕ, zero, suc, ◌+◌, ◌-◌, ◌<◌, Option, Some, None, is_some, true, false, map, refl}
use Rattle.px_num.proofs.Basics.{ap, sym, ◌∙◌, arith, range_with_len, option_map, option_or}
use Rattle.px_tile.specs.Refusals.{first_some}

-- of the first so many tiles, from one on
abbrev pub found_from : {X : Type 0} → (ℕ → Option X) → (from count : ℕ) → Option X
found_from f from count = first_some (map f (range_with_len from count))

pub both_none : {X : Type 0} (a b : Option X) → option_or a b ≡ None → (a ≡ None) × (b ≡ None)
both_none None b e = (refl, e)
both_none (Some x) b e = absurd cc

-- none before some tile, and so what is found of that one on
none_before : {X : Type 0} (f : ℕ → Option X) (from i count : ℕ) → found_from f from i ≡ None
    → found_from f from (i + count) ≡ found_from f (from + i) count
none_before f from zero count none = grind arith
none_before f from (suc i) count none =
    let all : suc i + count ≡ suc (i + count) = omega arith in
    let next : from + 1 + i ≡ from + suc i = omega arith in
    let parts = both_none (f from) (found_from f (from + 1) i) none in
    grind (arith, none_before f (from + 1) i count parts.1)

-- none of any tile
pub none_anywhere : {X : Type 0} (f : ℕ → Option X) (from count : ℕ) → ((i : ℕ) → f i ≡ None)
    → found_from f from count ≡ None
none_anywhere f from zero none = refl
none_anywhere f from (suc count) none = rw (none from) (none_anywhere f (from + 1) count none)

-- one tile more without any
pub none_more : {X : Type 0} (f : ℕ → Option X) (i : ℕ) → found_from f 0 i ≡ None → f i ≡ None
    → found_from f 0 (i + 1) ≡ None
none_more f i none last = grind (arith, none_before)

-- the first tile that has any
pub found_first : {X : Type 0} (f : ℕ → Option X) (i count : ℕ) (x : X) → found_from f 0 i ≡ None → i < count
    → f i ≡ Some x → found_from f 0 count ≡ Some x
found_first f i count x none low last =
    let rest = count - (i + 1) in
    let all : count ≡ i + suc rest = omega arith in
    let here : 0 + i ≡ i = omega arith in
    ap (found_from f 0) all ∙ none_before f 0 i (suc rest) none ∙ rw (here, last) refl

none_from : {X : Type 0} (f : ℕ → Option X) (from i count : ℕ) → found_from f from count ≡ None → i < count
    → f (from + i) ≡ None
none_from f from i zero none low = absurd (omega arith)
none_from f from zero (suc count) none low = grind (arith, both_none)
none_from f from (suc i) (suc count) none low =
    let next : from + suc i ≡ from + 1 + i = omega arith in
    rw next (none_from f (from + 1) i count ((both_none (f from) (found_from f (from + 1) count) none).1) (omega arith))

-- where no tile has any, each of them has none
pub none_each : {X : Type 0} (f : ℕ → Option X) (i count : ℕ) → found_from f 0 count ≡ None → i < count → f i ≡ None
none_each f i count none low =
    let here : 0 + i ≡ i = omega arith in
    rw here at (none_from f 0 i count none low)

-- what is found of a tile before which there is none, where it is anything
pub first_is : {X : Type 0} (f : ℕ → Option X) (i count : ℕ) (found : Option X) → found_from f 0 i ≡ None → i < count
    → found ≡ f i → is_some found ≡ true → found ≡ found_from f 0 count
first_is f i count None none low here some = absurd cc
first_is f i count (Some x) none low here some = sym (found_first f i count x none low (sym here))

pub none_is : {X : Type 0} (found : Option X) → is_some found ≡ false → found ≡ None
none_is None none = refl
none_is (Some x) none = absurd cc

-- what is made of it
pub made_first : {X Y : Type 0} (g : X → Y) (f : ℕ → Option X) (i count : ℕ) (y : Y) → found_from f 0 i ≡ None
    → i < count → option_map g (f i) ≡ Some y → option_map g (found_from f 0 count) ≡ Some y
made_first g f i count y none low is = grind (arith, found_first)
