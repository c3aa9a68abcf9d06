-- Rows of words in heap order: the nodes of a tree. Only proofs and private functions stand on it.
use Rattle.std.specs.Prelude.{◌≡◌, ℕ, ◌+◌, ◌-◌, ◌*◌, ◌^◌, ◌<◌, ◌≤◌, Bool, true, false, cond, if◌then◌else◌}
use Rattle.std.specs.Prelude.{nat_lt, List, length, slice_index}
use Rattle.px_num.specs.Bits.{nat_bit}
use Rattle.px_num.specs.Lists.{tabulate}
use Rattle.px_tree.specs.Nodes.{IsGrid, TreeState}
use Rattle.px_tree.specs.declared.lines.Lines.{Lines}
use Rattle.px_plane_tree.specs.Heap.{AreStill, HasLines, IsHeap, Rows, node_of}
use Rattle.px_plane_tree.specs.declared.heads.Heads.{Heads}

-- a tree of 2^nx by 2^ny leaves
abbrev pub seen_tree : (nx ny : ℕ) → (outputs carries : List ℕ) → TreeState
seen_tree nx ny outputs carries =
    record { nx = nx; ny = ny; nodes = tabulate (2 ^ (nx + ny + 1)) (node_of outputs carries) }

-- the outputs of the levels below 6 in words of their own
pub record AreSmallLevels (outputs small : List ℕ) : Type 0 where
  pub long : length small ≡ 6
  pub each : (k j : ℕ) → 1 ≤ k → k < 6 → j < 64 → nat_bit (slice_index small k) j ≡ cond (nat_lt j (2 ^ k))
      (nat_bit (slice_index outputs 0) (2 ^ k + j)) false

-- the lines of the first four words, for each choice of the lines a and b
pub record AreHeads (heads : Heads) : Type 0 where
  pub none_long : 4 ≤ length heads.none.items
  pub none_lines : HasLines false false heads.first_b heads.none.items
  pub a_long : 4 ≤ length heads.only_a.items
  pub a_lines : HasLines true false heads.first_b heads.only_a.items
  pub b_long : 4 ≤ length heads.only_b.items
  pub b_lines : HasLines false true heads.first_b heads.only_b.items
  pub both_long : 4 ≤ length heads.both.items
  pub both_lines : HasLines true true heads.first_b heads.both.items

-- how many levels from 7 on a tree has, and one where it has none
abbrev pub heights : ℕ → ℕ
heights levels = if nat_lt levels 8 then 1 else levels - 6

-- the rows are those of such a tree, which was last fed by these lines
pub record IsTree (nx ny : ℕ) (nodes : Rows) (small : List ℕ) (still : List Bool) (last : Lines) : Type 0 where
  pub grid : IsGrid nx ny
  pub heap : IsHeap nodes.outputs nodes.carries
  pub tall : length still ≡ heights (nx + ny)
  pub words : length nodes.outputs ≡ 2 ^ (length still + 1)
  pub enough : 2 ^ (nx + ny + 1) ≤ 64 * length nodes.outputs
  pub low : AreSmallLevels nodes.outputs small
  pub rest : AreStill nx last still nodes.outputs nodes.carries
