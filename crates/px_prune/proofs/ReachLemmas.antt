-- What a solid can have in a block: depths from the least that its fronts allow to the greatest that its backs do.
use Rattle.px_num.proofs.Basics.{ℕ, ℤ, pos, ◌≡◌, ◌<◌, ◌≤◌, ◌-◌, ◌≤ℤ◌, ◌<ℤ◌, ◌&&◌, ◌||◌, ◌==◌, Bool, true, false, nat_le}
use Rattle.px_num.proofs.Basics.{get_or, length, list_all-append, sym, take}
use Rattle.px_num.proofs.Basics.{take_more, ◌+◌}
use Rattle.px_num.proofs.Basics.{nat_lt, List, [], ◌∷◌, refl, ◌∙◌, arith, Some, None, Option, list_all, ints}
use Rattle.px_prune.proofs.Words.{all_same, Block, cell_is_first, cell_of, CellBox, Depths, end_of, greatest_in}
use Rattle.px_prune.proofs.Words.{has_pixel, hull, in_block, is_in_box, is_inside, is_one_pixel, IsBoxOf, IsReachOf}
use Rattle.px_prune.proofs.Words.{le_z, least_in, lt_z, SolidView, value_at, value_of, with_block}
use Rattle.px_num.proofs.TruthLaws.{le_holds, le_true, lt_holds}
use Rattle.px_num.specs.declared.linear.Linear.{Linear}
use Rattle.px_prune.specs.Blocks.{IsShutAt}
use Rattle.px_prune.specs.Covered.{is_covered}
use Rattle.px_prune.proofs.BlockLemmas.{greatest_at_pixel, greatest_bounds, least_at_pixel, least_bounds, one_column}
use Rattle.px_prune.proofs.BlockLemmas.{one_row}
use Rattle.px_prune.proofs.HullLemmas.{at_pixel, covered_box, in_part, joined_box, no_box, pixel_box, same_box}

all_pass : {X : Type 0} (p q : X → Bool) → ((x : X) → p x ≡ true → q x ≡ true) → (xs : List X)
    → list_all p xs ≡ true → list_all q xs ≡ true
all_pass p q h [] all = refl
all_pass p q h (x ∷ xs) all = grind (arith, all_pass p q h xs)

le_below : (a b c : ℤ) → a ≤ℤ b → le_z b c ≡ true → le_z a c ≡ true
le_below a b c h e = grind (arith, ints)

le_above : (a b c : ℤ) → b ≤ℤ c → le_z a b ≡ true → le_z a c ≡ true
le_above a b c h e = grind (arith, ints)

lt_above : (a b c : ℤ) → b ≤ℤ c → lt_z a b ≡ true → lt_z a c ≡ true
lt_above a b c h e = grind (arith, ints)

same_pixel : (b : Block) → is_one_pixel b ≡ true → (x y : ℕ) (v : Bool)
    → (x == b.x0) && (y == b.y0) && v ≡ has_pixel b x y && v
same_pixel b one x y v = grind arith

-- a box whose last column and row are its first
ending_there : (f : ℕ → ℕ → ℕ → Bool) (x x1 y y1 s t : ℕ) → x1 ≡ x → y1 ≡ y
    → IsBoxOf (at_pixel f x y) (Some (record { x0 = x; x1 = x; y0 = y; y1 = y; z0 = s; z1 = t - 1 }))
    → IsBoxOf (at_pixel f x y) (Some (record { x0 = x; x1 = x1; y0 = y; y1 = y1; z0 = s; z1 = t - 1 }))
ending_there f x x1 y y1 s t e d is = rw (e, d) is

module _ (s : SolidView) (d : Depths) (b : Block) where
  abbrev inside : ℕ → ℕ → ℕ → Bool
  inside = is_inside s d

  abbrev sides_can : Bool
  sides_can = list_all (λ side. le_z (pos 0) (greatest_in b side)) s.sides

  abbrev fronts_can : ℕ → Bool
  fronts_can z = list_all (λ front. le_z (least_in b front.plane) (pos (value_of d z))) s.fronts

  abbrev backs_can : ℕ → Bool
  backs_can z = list_all (λ back. lt_z (pos (value_of d z)) (greatest_in b back.plane)) s.backs

  -- each half-space has the depth somewhere in the block
  abbrev can_reach : ℕ → Bool
  can_reach z = nat_lt (value_of d z) (end_of d) && sides_can && fronts_can z && backs_can z

  inside_reaches : (x y z : ℕ) → in_block inside b x y z ≡ true → can_reach z ≡ true
  inside_reaches x y z h =
      step (has_pixel b x y) (nat_lt (value_of d z) (end_of d)) _ _ _ sides_can (fronts_can z) (backs_can z) h
      (λ there. all_pass _ _ (λ side e. le_above (pos 0) (value_at side x y) _ (greatest_bounds b side x y there) e)
      s.sides)
      (λ there. all_pass _ _ (λ f e. le_below _ (value_at f.plane x y) (pos (value_of d z))
      (least_bounds b f.plane x y there) e) s.fronts)
      (λ there. all_pass _ _ (λ f e. lt_above (pos (value_of d z)) (value_at f.plane x y) _
      (greatest_bounds b f.plane x y there) e) s.backs) where
        step : (t n p q r u v w : Bool) → t && (n && p && q && r) ≡ true → (t ≡ true → p ≡ true → u ≡ true)
            → (t ≡ true → q ≡ true → v ≡ true) → (t ≡ true → r ≡ true → w ≡ true) → n && u && v && w ≡ true
        step t n p q r u v w h f g k = grind arith

  inside_pixel : is_one_pixel b ≡ true → (z : ℕ) → inside b.x0 b.y0 z ≡ can_reach z
  inside_pixel one z = grind (arith, all_same, greatest_at_pixel, least_at_pixel)

  none_inside : ((z : ℕ) → can_reach z ≡ false) → (x y z : ℕ) → in_block inside b x y z ≡ true
      → is_in_box None x y z ≡ true
  none_inside none x y z h = cc (none z, inside_reaches x y z h)

  -- where it can have none
  no_reach : ((z : ℕ) → can_reach z ≡ false) → IsReachOf inside b None
  no_reach none = grind (arith, none_inside, no_box)

  side_missed : sides_can ≡ false → (z : ℕ) → can_reach z ≡ false
  side_missed e z = grind arith

  pub no_side : sides_can ≡ false → IsReachOf inside b None
  no_side e = no_reach (side_missed e)

  module _ (first end : ℕ) (fronts : (z : ℕ) → fronts_can z ≡ nat_le first z)
      (backs : (z : ℕ) → (nat_lt (value_of d z) (end_of d) && backs_can z) ≡ nat_lt z end) where
    depth_missed : end ≤ first → (z : ℕ) → can_reach z ≡ false
    depth_missed h z = grind arith

    pub no_depth : end ≤ first → IsReachOf inside b None
    no_depth h = no_reach (depth_missed h)

    module _ (sides : sides_can ≡ true) where
      reached_at : (z : ℕ) → can_reach z ≡ nat_le first z && nat_lt z end
      reached_at z = grind arith

      abbrev reached : CellBox
      reached = record { x0 = b.x0; x1 = b.x1; y0 = b.y0; y1 = b.y1; z0 = first; z1 = end - 1 }

      some_inside : (x y z : ℕ) → in_block inside b x y z ≡ true → is_in_box (Some reached) x y z ≡ true
      some_inside x y z h = grind (arith, reached_at, inside_reaches)

      pub some_reach : first < end → IsReachOf inside b (Some reached)
      some_reach lt = record {
        holds = some_inside;
        least = λ one. same_box (at_pixel inside b.x0 b.y0) (in_block inside b) (Some reached)
            (λ x y z. same_pixel b one x y (inside x y z))
            (ending_there inside b.x0 b.x1 b.y0 b.y1 first end (one_column b one) (one_row b one)
            (pixel_box inside b.x0 b.y0 first end lt (λ z. inside_pixel one z ∙ reached_at z)));
      }

-- one element more
pub all_more : {X : Type 0} (p : X → Bool) (xs : List X) (k : ℕ) (d : X) → k < length xs
    → list_all p (take (k + 1) xs) ≡ true → (list_all p (take k xs) ≡ true) × (p (get_or xs k d) ≡ true)
all_more p xs k d there all = grind (arith, take_more xs k d there, list_all-append)

pub le_of_test : (a b : ℤ) → le_z a b ≡ true → a ≤ℤ b
le_of_test a b test = grind (arith, ints)

pub lt_of_test : (a b : ℤ) → lt_z a b ≡ true → a <ℤ b
lt_of_test a b test = grind (arith, ints)

shut_cell : (t n p q r : Bool) → (t ≡ true → n ≡ true → q ≡ true → r ≡ true → ⊥) → t && (n && p && q && r) ≡ false
shut_cell t n p q r h = grind arith

le_test : (a b : ℤ) → a ≤ℤ b → le_z a b ≡ true
le_test a b h = grind (arith, ints)

-- where the cell of a back is not behind that of a front, no cell behind the front is before the back
no_room : (d : Depths) (front back : ℤ) (z : ℕ) → cell_of d back ≤ cell_of d front → front ≤ℤ pos (value_of d z)
    → back ≤ℤ pos (value_of d z)
no_room d front back z room behind =
    let to : cell_of d front ≤ z = le_holds _ _ (cell_is_first d front z ∙ le_test _ _ behind) in
    le_of_test _ _ (sym (cell_is_first d back z) ∙ le_true (cell_of d back) z (omega arith))

-- a front that leaves no room before a back in a block leaves no cell there
pub shut : (s : SolidView) (d : Depths) (b : Block) (front back : Linear)
    → ((x y value : ℕ) → list_all (λ f. le_z (value_at f.plane x y) (pos value)) s.fronts ≡ true
    → value_at front x y ≤ℤ pos value)
    → ((x y value : ℕ) → value < end_of d → list_all (λ f. lt_z (pos value) (value_at f.plane x y)) s.backs ≡ true
    → pos value <ℤ value_at back x y)
    → ((x y : ℕ) → has_pixel b x y ≡ true → IsShutAt front back d.fraction_bits x y)
    → (x y z : ℕ) → in_block (is_inside s d) b x y z ≡ false
unfolding IsShutAt
shut s d b front back before behind apart x y z =
    shut_cell _ _ _ _ _ (λ there low fronts backs.
    let v = value_of d z in
    omega (
      arith,
      ints,
      behind x y v (lt_holds v (end_of d) low) backs,
      no_room d (value_at front x y) (value_at back x y) z (apart x y there d.far) (before x y v fronts),
    ))

pub shut_reach : (cells : ℕ → ℕ → ℕ → Bool) (b : Block) → ((x y z : ℕ) → in_block cells b x y z ≡ false)
    → IsReachOf cells b None
shut_reach cells b none = record { holds = λ x y z h. cc (none x y z, h); least = λ one. no_box _ none }

in_cover : (o u : Option CellBox) (x y z : ℕ) → is_covered o u ≡ true → is_in_box o x y z ≡ true
    → is_in_box u x y z ≡ true
in_cover o u x y z e h = grind (arith, in_part)

-- a box that grows by a block
module _ (found inside : ℕ → ℕ → ℕ → Bool) (b : Block) (box : Option CellBox) (is : IsBoxOf found box) where
  module _ (reach : Option CellBox) (near : IsReachOf inside b reach) where
    pub passed_over : is_covered reach box ≡ true → IsBoxOf (with_block found inside b) box
    passed_over inner =
        covered_box found (in_block inside b) box is (λ x y z h. in_cover reach box x y z inner (near.holds x y z h))

    pub joined_on : is_one_pixel b ≡ true → IsBoxOf (with_block found inside b) (hull box reach)
    joined_on one =
        joined_box found (in_block inside b) (with_block found inside b) box reach (λ x y z. refl) is (near.least one)

both_halves : (f v p q r : Bool) → r ≡ (p || q) → (f || (p && v)) || (q && v) ≡ f || (r && v)
both_halves f v p q r e = grind arith

-- the two halves of a block, one after the other
module _ (found inside : ℕ → ℕ → ℕ → Bool) (b first second : Block)
    (parts : (x y : ℕ) → has_pixel b x y ≡ (has_pixel first x y || has_pixel second x y)) where
  abbrev by_turns : ℕ → ℕ → ℕ → Bool
  by_turns = with_block (with_block found inside first) inside second

  same_cells : (x y z : ℕ) → by_turns x y z ≡ with_block found inside b x y z
  same_cells x y z = grind (arith, both_halves)

  pub by_halves : (box : Option CellBox) → IsBoxOf by_turns box → IsBoxOf (with_block found inside b) box
  by_halves box is = same_box by_turns (with_block found inside b) box same_cells is
