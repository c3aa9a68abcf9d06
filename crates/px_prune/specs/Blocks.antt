-- A block of pixels: the values of linear forms in it, and the cells of a solid. Only proofs and private
-- functions stand on it.
use Rattle.std.specs.Prelude.{ℕ, ℤ, pos, ◌≡◌, ◌+◌, ◌-◌, ◌≤◌, ◌==◌, Bool, true, ◌&&◌, ◌||◌, nat_le, Option}
use Rattle.std.specs.Prelude.{if◌then◌else◌}
use Rattle.std.specs.Int.Signed.{lt_z}
use Rattle.px_model.specs.Cells.{cell_of, depths}
use Rattle.px_num.specs.declared.linear.Linear.{Linear}
use Rattle.px_num.specs.Forms.{value_at}
use Rattle.px_prune.specs.declared.block.Block.{Block}
use Rattle.px_normal.specs.declared.cell_box.CellBox.{CellBox}
use Rattle.px_normal.specs.Boxes.{is_in_box}
use Rattle.px_prune.specs.Bounding.{IsBoxOf}

-- the pixel (x, y) is one of the block's
abbrev pub has_pixel : Block → ℕ → ℕ → Bool
has_pixel b x y = nat_le b.x0 x && nat_le x b.x1 && nat_le b.y0 y && nat_le y b.y1

-- the block is one pixel
abbrev pub is_one_pixel : Block → Bool
is_one_pixel b = (b.x0 == b.x1) && (b.y0 == b.y1)

-- how far a block is from being one pixel
abbrev pub extent : Block → ℕ
extent b = (b.x1 - b.x0) + (b.y1 - b.y0)

-- the least and the greatest value of a form in a block: each is at a corner, by the signs of a and b
unfoldable pub least_in : Block → Linear → ℤ
least_in b form =
    value_at form (if lt_z form.a (pos 0) then b.x1 else b.x0) (if lt_z form.b (pos 0) then b.y1 else b.y0)

unfoldable pub greatest_in : Block → Linear → ℤ
greatest_in b form =
    value_at form (if lt_z form.a (pos 0) then b.x0 else b.x1) (if lt_z form.b (pos 0) then b.y0 else b.y1)

-- cells at the pixels of a block
abbrev pub in_block : (ℕ → ℕ → ℕ → Bool) → Block → ℕ → ℕ → ℕ → Bool
in_block cells b x y z = has_pixel b x y && cells x y z

-- at a pixel each cell that is not before a front is not before a back
unfoldable pub IsShutAt : Linear → Linear → ℕ → ℕ → ℕ → Type 0
IsShutAt front back fraction_bits x y = (far : ℕ) →
    cell_of (depths far fraction_bits) (value_at back x y) ≤ cell_of (depths far fraction_bits) (value_at front x y)

-- the box holds the cells at the pixels of a block, and is their least box where the block is one pixel
pub record IsReachOf (cells : ℕ → ℕ → ℕ → Bool) (block : Block) (box : Option CellBox) : Type 0 where
  pub holds : (x y z : ℕ) → in_block cells block x y z ≡ true → is_in_box box x y z ≡ true
  pub least : is_one_pixel block ≡ true → IsBoxOf (in_block cells block) box

-- the cells found, and those at the pixels of a block
abbrev pub with_block : (ℕ → ℕ → ℕ → Bool) → (ℕ → ℕ → ℕ → Bool) → Block → ℕ → ℕ → ℕ → Bool
with_block found cells b x y z = found x y z || in_block cells b x y z
