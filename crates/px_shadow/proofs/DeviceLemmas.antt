-- Operations that are carried out on an array, one after another.
use Rattle.px_num.proofs.Basics.{nat_tests, common_steps, flat_map-append, drop-cons, drop, get_or, ◌≡◌, ◌<◌, ◌≤◌, ◌+◌}
use Rattle.px_num.proofs.Basics.{◌*◌, ◌∙◌, ℕ, List, [], ◌∷◌, ◌++◌, length, All, refl, ap, sym, arith, append_assoc}
use Rattle.px_num.proofs.Basics.{add-zero, length-append, flat_map, drop_all, All-cons, All-head, All-nil, All-tail}
use Rattle.px_shadow.proofs.Words.{all_made, after_clocks, all_clocked-append, all_micros, append-nil, CanMake}
use Rattle.px_shadow.proofs.Words.{CarriesOut, Device, grid_after_clocks, HasGrid, IsLawful, IsRestOf, Macro, micros}
use Rattle.px_shadow.proofs.Words.{nx-after_clocks, ny-after_clocks, State, ArrayView, HasRun}
use Rattle.px_array.proofs.WorkLaws.{run_none, run_on}
use Rattle.px_tree.specs.Nodes.{IsGrid}
use Rattle.px_shadow.specs.Carrying.{carried_out}

pub carried_none : (d : Device) → carried_out [] d ≡ d
unfolding carried_out
carried_none d = ap (λ n. record { state = d.state; clocks = n }) (add-zero d.clocks)

pub carried_both : (ms ns : List Macro) (d : Device) → carried_out (ms ++ ns) d ≡ carried_out ns (carried_out ms d)
unfolding carried_out
carried_both ms ns d = grind (arith, all_micros, flat_map-append, micros, all_clocked-append, nx-after_clocks, ny-after_clocks)

-- the array keeps its size
sized_with : (bits nx ny a b : ℕ) (s : State) → a ≡ nx → b ≡ ny → IsGrid nx ny → HasGrid bits nx ny s
    → IsGrid a b × HasGrid bits a b s
sized_with bits nx ny a b s columns rows grid pixels = rw (columns, rows) (grid, pixels)

sized_after : (bits : ℕ) (ms : List Macro) (d : Device) → IsGrid d.state.tree.nx d.state.tree.ny
    → HasGrid bits d.state.tree.nx d.state.tree.ny d.state
    → let now = carried_out ms d in
    IsGrid now.state.tree.nx now.state.tree.ny × HasGrid bits now.state.tree.nx now.state.tree.ny now.state
unfolding carried_out
sized_after bits ms d grid pixels =
    let nx = d.state.tree.nx in
    let ny = d.state.tree.ny in
    let all = all_micros ms nx ny in
    sized_with bits nx ny _ _ (after_clocks all d.state) (nx-after_clocks all d.state) (ny-after_clocks all d.state)
    grid (grid_after_clocks bits nx ny all d.state pixels)

all_first : {X : Type 0} (P : X → Type 0) (xs ys : List X) → All P (xs ++ ys) → All P xs
all_first P [] ys all = All-nil P
all_first P (x ∷ xs) ys all =
    All-cons P x xs (All-head P x (xs ++ ys) all) (all_first P xs ys (All-tail P x (xs ++ ys) all))

all_second : {X : Type 0} (P : X → Type 0) (xs ys : List X) → All P (xs ++ ys) → All P ys
all_second P [] ys all = all
all_second P (x ∷ xs) ys all = all_second P xs ys (All-tail P x (xs ++ ys) all)

-- operations in two parts
pub can_first : (bits : ℕ) (xs ys : List Macro) (d : Device) → CanMake bits (xs ++ ys) d → CanMake bits xs d
can_first bits xs ys d can = record {
  grid = can.grid;
  pixels = can.pixels;
  lawful = all_first (λ m. IsLawful m 256) xs ys can.lawful;
  places = all_first (λ m. IsLawful m bits) xs ys can.places;
  counted = omega (arith, can.counted, length-append xs ys);
}

can_second : (bits : ℕ) (xs ys : List Macro) (before now : ArrayView) → CanMake bits (xs ++ ys) before.device
    → CarriesOut xs before now → CanMake bits ys now.device
can_second bits xs ys before now can made =
    let sized : IsGrid now.device.state.tree.nx now.device.state.tree.ny
    × HasGrid bits now.device.state.tree.nx now.device.state.tree.ny now.device.state =
    rw made.device (sized_after bits xs before.device can.grid can.pixels) in
    record {
      grid = sized.0;
      pixels = sized.1;
      lawful = all_second (λ m. IsLawful m 256) xs ys can.lawful;
      places = all_second (λ m. IsLawful m bits) xs ys can.places;
      counted = omega (arith, can.counted, length-append xs ys, made.few);
    }

-- the rest is carried out on what the first part leaves
pub rest_of : (xs ys : List Macro) (d now : Device) → now ≡ carried_out xs d → carried_out ys now
    ≡ carried_out (xs ++ ys) d
rest_of xs ys d now is = ap (carried_out ys) is ∙ sym (carried_both xs ys d)

-- they are made
pub made_out : (ms : List Macro) (before now : ArrayView) → now.device ≡ all_made ms before.device
    → now.device.clocks ≤ before.device.clocks + 82 * length ms → HasRun before now → CarriesOut ms before now
unfolding carried_out
made_out ms before now is few run = record { device = is; few = few; run = run }

-- of a whole, carried out from a start on by an array whose pixels have so many memory bits
module _ (bits : ℕ) (whole : List Macro) (start : ArrayView) where
  abbrev Left : List Macro → ArrayView → Type 0
  Left rest now = IsRestOf bits whole rest start now

  pub all_left : CanMake bits whole start.device → Left whole start
  all_left can = record { can = can; same = refl; few = omega arith; run = run_none start }

  pub left_first : (xs ys : List Macro) (now : ArrayView) → Left (xs ++ ys) now → CanMake bits xs now.device
  left_first xs ys now left = can_first bits xs ys now.device left.can

  pub left_next : (xs ys : List Macro) (before now : ArrayView) → Left (xs ++ ys) before → CarriesOut xs before now
      → Left ys now
  left_next xs ys before now left made = record {
    can = can_second bits xs ys before now left.can made;
    same = rest_of xs ys before.device now.device made.device ∙ left.same;
    few = omega (arith, left.few, made.few, length-append xs ys);
    run = run_on start before now left.run made.run;
  }

  pub none_left : (now : ArrayView) → Left [] now → CarriesOut whole start now
  none_left now left = grind (arith, carried_none)

  -- the last ones are carried out
  pub last_made : (ms : List Macro) (before now : ArrayView) → Left ms before → CarriesOut ms before now
      → CarriesOut whole start now
  last_made ms before now left made = none_left now (left_next ms [] before now (rw (append-nil ms) left) made)

  -- some operations for each element of a list
  module _ {X : Type 0} (f : X → List Macro) (xs : List X) (tail : List Macro) where
    each_cut : (i : ℕ) (x d : X) (now : ArrayView) → i < length xs → get_or xs i d ≡ x
        → Left (flat_map f (drop i xs) ++ tail) now → Left (f x ++ (flat_map f (drop (i + 1) xs) ++ tail)) now
    each_cut i x d now there is left = grind (arith, nat_tests, common_steps, drop-cons, append_assoc)

    pub each_first : (i : ℕ) (x d : X) (now : ArrayView) → i < length xs → get_or xs i d ≡ x
        → Left (flat_map f (drop i xs) ++ tail) now → CanMake bits (f x) now.device
    each_first i x d now there is left = left_first (f x) _ now (each_cut i x d now there is left)

    pub each_next : (i : ℕ) (x d : X) (before now : ArrayView) → i < length xs → get_or xs i d ≡ x
        → Left (flat_map f (drop i xs) ++ tail) before → CarriesOut (f x) before now
        → Left (flat_map f (drop (i + 1) xs) ++ tail) now
    each_next i x d before now there is left made =
        left_next (f x) _ before now (each_cut i x d before there is left) made

    pub each_done : (i : ℕ) (now : ArrayView) → length xs ≤ i → Left (flat_map f (drop i xs) ++ tail) now
        → Left tail now
    each_done i now past left = grind (arith, drop_all)
