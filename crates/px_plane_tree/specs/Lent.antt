-- What the rows that an array lends hold. Clauses of public calls stand on it.
use Rattle.std.specs.Prelude.{◌≡◌, ℕ, ◌+◌, ◌*◌, ◌^◌, ◌<◌, ◌≤◌, Bool, false, if◌then◌else◌, nat_lt, List, length}
use Rattle.px_rows.specs.Rows.{row_bit}
use Rattle.px_tree.specs.Nodes.{TreeState, at_place, node_at}
use Rattle.px_tree.specs.declared.node.Node.{Node}

-- the outputs of the nodes of a level, and 0 past the last
abbrev pub output_bit : TreeState → (level p : ℕ) → Bool
output_bit tree level p = if nat_lt p (2 ^ level) then (node_at tree level p).output else false

-- a latch of each node, by their places
pub record IsLatch (tree : TreeState) (latch : Node → Bool) (row : List ℕ) : Type 0 where
  pub words : 2 ^ (tree.nx + tree.ny + 1) ≤ 64 * length row
  pub each : (p : ℕ) → p < 2 ^ (tree.nx + tree.ny + 1) → row_bit row p ≡ latch (at_place tree.nodes p)
