-- The cells of a solid at a pixel, by the cells of the greatest front and of the least back.
use Rattle.px_num.proofs.Basics.{◌≡◌, ◌≤◌, ℕ, true, ◌&&◌, nat_le, nat_lt, refl, ◌∙◌, arith, inl, inr, ints, cases_lt}
use Rattle.px_face.proofs.Words.{cell_is_first, cell_is_least, cell_of, cells_end, cells_grow, Depths, end_of}
use Rattle.px_face.proofs.Words.{enters_at, HasCells, is_inside, is_met, le_true, leaves_at, lt_true, never, SolidView}
use Rattle.px_face.proofs.DepthLaws.{cells_are, depths_are}

module _ (s : SolidView) (d : Depths) (x y : ℕ) where
  abbrev end : ℕ
  end = end_of d

  abbrev first : ℕ
  first = cell_of d (enters_at s x y)

  abbrev last : ℕ
  last = cell_of d (leaves_at s end x y)

  by_cells : (z : ℕ) → is_inside s d x y z ≡ (is_met s end x y && nat_le first z && nat_lt z last)
  by_cells z = grind (arith, cells_are, cell_is_first, cell_is_least)

  pub in_order : is_met s end x y ≡ true → first ≤ last
  in_order met =
      cells_grow d (enters_at s x y) (leaves_at s end x y) (omega (arith, ints, (depths_are s end x y met).1))

  pub has_cells : HasCells s d x y
  has_cells = record {
    cells = by_cells;
    none = λ met outside. elim (cases_lt first last) [
      | inl some ↦ absurd (never (is_inside s d x y first) (outside first)
          (by_cells first ∙ rw (met, le_true first first (omega arith), lt_true first last some) refl))
      | inr past ↦ let le = in_order met in omega (arith, le, past)
    ];
    within = λ met. cells_end d (leaves_at s end x y) (depths_are s end x y met).2;
  }
