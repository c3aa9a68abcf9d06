-- The main theorem of the tree: after a clear and t + nx + ny feeds of the lines of one linear form, each leaf is
-- bit t of the form's value at its pixel. Clauses of public calls stand on it.
use Rattle.std.specs.Prelude.{◌≡◌, ℕ, suc, ◌+◌, ◌*◌, ◌/◌, ◌%◌, ◌^◌, ◌<◌, ◌≤◌, ◌==◌, Bool, if◌then◌else◌, nat_lt}
use Rattle.std.specs.Int.{is_negative}
use Rattle.px_num.specs.Bits.{bit_of, modulo, nat_bit}
use Rattle.px_num.specs.Forms.{IsInTreeRange, value_at}
use Rattle.px_num.specs.declared.linear.Linear.{Linear}
use Rattle.px_tree.specs.Feeds.{fed_form}
use Rattle.px_tree.specs.Nodes.{IsGrid, TreeState, after_feed, leaf_bit, next_node, node_at}
use Rattle.px_tree.specs.Sums.{HoldsSums, partial_sum}

-- bit t of a form's value at a pixel, modulo 2^40
abbrev pub tree_bit : Linear → (x y t : ℕ) → Bool
tree_bit form x y t = nat_bit (modulo (value_at form x y) 40) t

-- A feed takes every node by the node table. The parent is node `index / 2` of the level above, where line c is
-- above level 1; line a comes to levels 1 to nx, and line b to those below.
abbrev pub IsFedByTable : Type 0
IsFedByTable = (tree : TreeState) (a b c : Bool) (k index : ℕ) → suc k ≤ tree.nx + tree.ny → index < 2 ^ suc k →
    node_at (after_feed a b c tree) (suc k) index
    ≡ next_node (index % 2 == 1)
    (if k == 0 then c else (node_at tree k (index / 2)).output)
    (if nat_lt tree.nx (suc k) then b else a)
    (node_at tree (suc k) index).carry

-- after a clear and s feeds every node holds a bit of its sum, and what that sum has carried
abbrev pub NodesHoldSums : Type 0
NodesHoldSums = (form : Linear) (nx ny s : ℕ) → HoldsSums form nx ny s (fed_form form nx ny s)

-- the sum at a leaf is the value at its pixel
abbrev pub LeafSumIsValue : Type 0
LeafSumIsValue = (form : Linear) (nx ny x y : ℕ) → x < 2 ^ nx → y < 2 ^ ny →
    partial_sum form nx ny (nx + ny) (x * 2 ^ ny + y) ≡ value_at form x y

-- for every t
abbrev pub LeafGivesValue : Type 0
LeafGivesValue = (form : Linear) (nx ny x y t : ℕ) → 1 ≤ nx → 1 ≤ ny → x < 2 ^ nx → y < 2 ^ ny →
    leaf_bit (fed_form form nx ny (t + (nx + ny))) x y ≡ bit_of (value_at form x y) t

-- for t below 40, by the value modulo 2^40
abbrev pub LeafGivesTreeBit : Type 0
LeafGivesTreeBit = (form : Linear) (nx ny x y t : ℕ) → 1 ≤ nx → 1 ≤ ny → x < 2 ^ nx → y < 2 ^ ny → t < 40 →
    leaf_bit (fed_form form nx ny (t + (nx + ny))) x y ≡ tree_bit form x y t

-- bit 39 is the sign, for a form in the tree's range
abbrev pub LeafGivesSign : Type 0
LeafGivesSign = (form : Linear) (nx ny x y : ℕ) → IsInTreeRange form → IsGrid nx ny → x < 2 ^ nx → y < 2 ^ ny →
    leaf_bit (fed_form form nx ny (39 + (nx + ny))) x y ≡ is_negative (value_at form x y)
