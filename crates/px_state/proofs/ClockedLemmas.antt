-- A state by the parts that are in its words, and its clocks one after another.
use Rattle.px_state.proofs.Cited.{[], after_clock, after_clocks, after_clocks-append, ap, arith, BeginsWithState}
use Rattle.px_state.proofs.Cited.{drop, fails_before_first, first_stray, get_or, get_or-drop, HoldsLeaves, HoldsNodes}
use Rattle.px_state.proofs.Cited.{HoldsPixels, HoldsPixelsAndNodes, HoldsState, HoldsWords, IsShapeOf, KeepsOutside}
use Rattle.px_state.proofs.Cited.{leaves_at, length, length-drop, List, lt_fails, map, map-append, nodes_at}
use Rattle.px_state.proofs.Cited.{nodes_end, None, not_false, refl, room_of, Shape, State, take, take_more, TreeState}
use Rattle.px_state.proofs.Cited.{true, ℕ, ◌+◌, ◌-◌, ◌<◌, ◌∙◌, ◌∷◌, ◌≡◌}
use Rattle.std.proofs.lemmas.Grind.{same_number_lists}
use Rattle.px_state.proofs.ActingLemmas.{kept_pixels}
use Rattle.px_state.specs.Packing.{is_micro, micro_in}

pub room_is : (shape : Shape) → room_of shape.bits shape.nx shape.ny ≡ nodes_end shape
room_is shape = rw (shape.plane_is, shape.nodes_are) refl

-- what the words of a state hold
pub record HoldsParts (shape : Shape) (s : State) (words : List ℕ) : Type 0 where
  pub pixels : HoldsPixels shape s.pixels words
  pub leaves : HoldsLeaves shape s.tree words
  pub nodes : HoldsNodes shape s.tree words

module _ (shape : Shape) (s : State) (grid : IsShapeOf shape s.tree) (words : List ℕ) where
  pub parts_of : HoldsWords shape.bits s words → HoldsParts shape s words
  parts_of held = grind arith

  pub whole_of : HoldsParts shape s words → HoldsWords shape.bits s words
  whole_of parts = grind arith

-- nodes stay where their words do
pub kept_nodes : (shape : Shape) (tree : TreeState) (from : ℕ) (old new : List ℕ)
    → KeepsOutside from (nodes_at shape) old new → HoldsNodes shape tree old → HoldsNodes shape tree new
kept_nodes shape tree from old new kept held = grind arith

module _ (shape : Shape) (s : State) where
  pub but_leaves : (words : List ℕ) → HoldsState shape.bits shape.nx shape.ny s words → HoldsPixelsAndNodes shape s words
  but_leaves words held = grind (arith, parts_of)

  -- once the leaves are written, the words hold all of the state
  pub with_leaves : (old new : List ℕ) → HoldsPixelsAndNodes shape s old
      → KeepsOutside (leaves_at shape) (nodes_at shape) old new → HoldsLeaves shape s.tree new
      → HoldsState shape.bits shape.nx shape.ny s new
  with_leaves old new held kept leaves = record {
    grid = held.grid;
    holds = whole_of shape s (record { columns = held.grid.columns; rows = held.grid.rows }) new (record {
      pixels = kept_pixels shape s.pixels (leaves_at shape) (nodes_at shape) old new kept (omega arith) held.pixels;
      leaves = leaves;
      nodes = kept_nodes shape s.tree (leaves_at shape) old new kept held.nodes;
    });
  }

-- lists that are the same from a place on
pub same_behind : (from n : ℕ) (ys xs : List ℕ) → KeepsOutside from n ys xs → drop n xs ≡ drop n ys
same_behind from n ys xs kept = grind (arith, same_number_lists, length-drop, get_or-drop)

pub has_words : (bits nx ny : ℕ) (s : State) (old new : List ℕ) → HoldsState bits nx ny s new
    → KeepsOutside 0 (room_of bits nx ny) old new → BeginsWithState bits s old new
has_words bits nx ny s old new held kept = record {
  holds = held.holds;
  behind = rw (held.grid.columns, held.grid.rows) (same_behind 0 (room_of bits nx ny) old new kept);
}

pub one_more : (micros : List ℕ) (i : ℕ) (s : State) → i < length micros
    → after_clocks (map micro_in (take (i + 1) micros)) s
    ≡ after_clock (micro_in (get_or micros i 0)) (after_clocks (map micro_in (take i micros)) s)
one_more micros i s within =
    ap (λ ws. after_clocks (map micro_in ws) s) (take_more micros i 0 within)
    ∙ (ap (λ ms. after_clocks ms s) (map-append micro_in (take i micros) (get_or micros i 0 ∷ []))
    ∙ after_clocks-append (map micro_in (take i micros)) (micro_in (get_or micros i 0) ∷ []) s)

-- where no word is a stray, each is that of a micro
pub none_stray : (bits : ℕ) (micros : List ℕ) (i : ℕ) → first_stray bits micros ≡ None → i < length micros
    → is_micro bits (get_or micros i 0) ≡ true
none_stray bits micros i none within = grind (arith, fails_before_first, not_false, lt_fails)
