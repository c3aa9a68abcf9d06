-- A run of an array, seen from one of its pixels.
use Rattle.px_num.proofs.Basics.{◌≡◌, ℕ, zero, suc, ◌+◌, ◌-◌, ◌*◌, ◌^◌, ◌<◌, ◌≤◌, map, refl, sym, ap, ◌∙◌, arith}
use Rattle.px_num.proofs.Basics.{range_with_len}
use Rattle.px_asm.proofs.Words.{after_clock, after_clocks, bit_of, grid_after_clock, HasGrid, index_below, IsGrid}
use Rattle.px_asm.proofs.Words.{leaf_output, LeafGivesValue, Linear, Micro, pixel_at, pixel_at-after_clock, pixel_of}
use Rattle.px_asm.proofs.Words.{State, suc_not_zero, tree_at, TreeState, value_at}
use Rattle.px_num.specs.Lists.{tabulate}
use Rattle.px_tree.specs.Feeds.{fed_form}
use Rattle.px_asm.proofs.ActingLemmas.{after_acts}

-- the state after n micros
abbrev pub steps : (micro : ℕ → Micro) → ℕ → State → State
steps micro zero s = s
steps micro (suc n) s = after_clock (micro n) (steps micro n s)

run_from : (micro : ℕ → Micro) (k n : ℕ) (s : State) → after_clocks (map micro (range_with_len k n)) (steps micro k s)
    ≡ steps micro (k + n) s
run_from micro k zero s = let e : k ≡ k + 0 = omega arith in ap (λ i. steps micro i s) e
run_from micro k (suc n) s = grind (arith, run_from micro (suc k) n s)

pub run_is_steps : (micro : ℕ → Micro) (n : ℕ) (s : State) → after_clocks (tabulate n micro) s ≡ steps micro n s
run_is_steps micro n s = let e : 0 + n ≡ n = omega arith in run_from micro 0 n s ∙ ap (λ i. steps micro i s) e

pub grid_after_steps : (bits nx ny : ℕ) (micro : ℕ → Micro) (n : ℕ) (s : State) → HasGrid bits nx ny s
    → HasGrid bits nx ny (steps micro n s)
grid_after_steps bits nx ny micro zero s grid = grid
grid_after_steps bits nx ny micro (suc n) s grid =
    grid_after_clock bits nx ny (micro n) (steps micro n s) (grid_after_steps bits nx ny micro n s grid)

-- a pixel takes the acts by itself
pub pixel_after_steps : (bits nx ny : ℕ) (micro : ℕ → Micro) (n : ℕ) (s : State) → HasGrid bits nx ny s → (place : ℕ)
    → place < 2 ^ (nx + ny) → pixel_at (steps micro n s) place ≡ after_acts (λ i. (micro i).act)
    (λ i. leaf_output (steps micro i s).tree place) n (pixel_at s place)
pixel_after_steps bits nx ny micro zero s grid place inside = refl
pixel_after_steps bits nx ny micro (suc n) s grid place inside =
    let now = grid_after_steps bits nx ny micro n s grid in
    grind (arith, pixel_at-after_clock, pixel_after_steps bits nx ny micro n s grid place inside)

-- pixel (x, y) after a run
pub pixel_after_run : (bits nx ny : ℕ) (micro : ℕ → Micro) (n : ℕ) (s : State) → HasGrid bits nx ny s → (x y : ℕ)
    → x < 2 ^ nx → y < 2 ^ ny → pixel_of (after_clocks (tabulate n micro) s) x y ≡ after_acts (λ i. (micro i).act)
    (λ i. leaf_output (steps micro i s).tree (x * 2 ^ ny + y)) n (pixel_of s x y)
pixel_after_run bits nx ny micro n s grid x y column row =
    let now = grid_after_steps bits nx ny micro n s grid in
    ap (λ r. pixel_of r x y) (run_is_steps micro n s)
    ∙ (ap (λ rows. pixel_at (steps micro n s) (x * 2 ^ rows + y)) now.rows
    ∙ (pixel_after_steps bits nx ny micro n s grid (x * 2 ^ ny + y) (index_below nx ny x y column row)
    ∙ ap (λ rows. after_acts (λ i. (micro i).act) (λ i. leaf_output (steps micro i s).tree (x * 2 ^ ny + y)) n
    (pixel_at s (x * 2 ^ rows + y))) (sym grid.rows)))

-- the tree while a form is fed
fed_rows : (form : Linear) (nx ny s : ℕ) → (fed_form form nx ny s).ny ≡ ny
fed_rows form nx ny zero = refl
fed_rows form nx ny (suc s) = fed_rows form nx ny s

pub tree_after_feeds : (bits nx ny : ℕ) (micro : ℕ → Micro) (form : Linear) (n : ℕ) (s : State) → HasGrid bits nx ny s
    → ((i : ℕ) → i ≤ n → (micro i).tree ≡ tree_at form nx ny i) → (steps micro (suc n) s).tree ≡ fed_form form nx ny n
tree_after_feeds bits nx ny micro form zero s grid fed = rw (fed 0 (omega arith), grid.columns, grid.rows) refl
tree_after_feeds bits nx ny micro form (suc n) s grid fed =
    let before : suc n - 1 ≡ n = omega arith in
    rw (
      fed (suc n) (omega arith),
      tree_after_feeds bits nx ny micro form n s grid (λ i low. fed i (omega arith)),
      before,
      suc_not_zero n,
    ) refl

pub leaf_while_fed : LeafGivesValue → (bits nx ny : ℕ) → IsGrid nx ny
    → (micro : ℕ → Micro) (form : Linear) (t : ℕ) (s : State) → HasGrid bits nx ny s
    → ((i : ℕ) → i ≤ t + (nx + ny) → (micro i).tree ≡ tree_at form nx ny i) → (x y : ℕ) → x < 2 ^ nx → y < 2 ^ ny
    → leaf_output (steps micro (suc (t + (nx + ny))) s).tree (x * 2 ^ ny + y) ≡ bit_of (value_at form x y) t
leaf_while_fed leaf bits nx ny sizes micro form t s grid fed x y column row =
    let feeds = t + (nx + ny) in
    ap (λ (tree : TreeState). leaf_output tree (x * 2 ^ ny + y)) (tree_after_feeds bits nx ny micro form feeds s
    grid fed)
    ∙ (ap (λ rows. leaf_output (fed_form form nx ny feeds) (x * 2 ^ rows + y)) (sym (fed_rows form nx ny feeds))
    ∙ leaf form nx ny x y t sizes.0.0 sizes.1.0 column row)
