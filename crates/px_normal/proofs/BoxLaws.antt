-- Cells in boxes: in the common part of those that they are in, and in the box of all cells.
use Rattle.px_num.proofs.Basics.{ℕ, ◌≡◌, ◌<◌, ◌^◌, true, arith, Option}
use Rattle.px_normal.specs.declared.cell_box.CellBox.{CellBox}
use Rattle.px_normal.specs.Boxes.{lies_in, common_part, everything, narrowed, is_in_box}

module _ (x y z : ℕ) where
  pub in_common_part : (a b : CellBox) → lies_in a x y z ≡ true → lies_in b x y z ≡ true
      → lies_in (common_part a b) x y z ≡ true
  in_common_part a b e f = grind arith

  pub in_narrowed : (a b : Option CellBox) → is_in_box a x y z ≡ true → is_in_box b x y z ≡ true
      → is_in_box (narrowed a b) x y z ≡ true
  in_narrowed a b h p = grind (arith, in_common_part)

  pub in_everything : x < 2 ^ 32 → y < 2 ^ 32 → z < 2 ^ 32 → lies_in everything x y z ≡ true
  in_everything p q r = grind arith
