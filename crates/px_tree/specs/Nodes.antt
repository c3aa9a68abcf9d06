-- What a contract sees of a multiplier tree: the latches of its nodes, and what a clear and a feed make of them.
-- Clauses of public calls stand on it.
-- Node i of level k stands at place 2^k + i, so that its parent stands at half its place. Place 1 is the root, where
-- line c comes in, and place 0 is free; both stay 0.
use Rattle.std.specs.Prelude.{ℕ, ◌+◌, ◌*◌, ◌/◌, ◌%◌, ◌^◌, ◌≤◌, ◌==◌, Bool, true, false, if◌then◌else◌, nat_lt}
use Rattle.std.specs.Prelude.{List, get_or, replicate}
use Rattle.px_num.specs.Bits.{majority, xor}
use Rattle.px_num.specs.Lists.{tabulate}
use Rattle.px_tree.specs.declared.node.Node.{Node}

-- a tree of 2^nx by 2^ny leaves: levels 1 to nx have line a, levels nx + 1 to nx + ny line b
pub record TreeState : Type 0 where
  pub nx : ℕ
  pub ny : ℕ
  pub nodes : List Node

-- the sizes that a tree may have
abbrev pub IsGrid : ℕ → ℕ → Type 0
IsGrid nx ny = ((1 ≤ nx) × (nx ≤ 9)) × ((1 ≤ ny) × (ny ≤ 9))

abbrev pub zero_node : Node
zero_node = record { output = false; carry = false }

abbrev pub at_place : List Node → ℕ → Node
at_place nodes place = get_or nodes place zero_node

-- node `index` of a level
abbrev pub node_at : TreeState → ℕ → ℕ → Node
node_at tree level index = at_place tree.nodes (2 ^ level + index)

-- the output of the leaf of that index
abbrev pub leaf_output : TreeState → ℕ → Bool
leaf_output tree index = (node_at tree (tree.nx + tree.ny) index).output

-- the output of leaf (x, y)
abbrev pub leaf_bit : TreeState → ℕ → ℕ → Bool
leaf_bit tree x y = leaf_output tree (x * 2 ^ tree.ny + y)

-- every latch 0
abbrev pub cleared : ℕ → ℕ → TreeState
cleared nx ny = record { nx = nx; ny = ny; nodes = replicate (2 ^ (nx + ny + 1)) zero_node }

-- the node table: an odd node adds its line to its parent's output, and an even one passes the output on
abbrev pub next_node : (odd : Bool) → (parent line carry : Bool) → Node
next_node false parent line carry = record { output = parent; carry = false }
next_node true parent line carry = record { output = xor parent (xor line carry); carry = majority parent line carry }

-- what a feed makes of the node at a place, from the latches before it; line b begins at the place first_b
abbrev pub next_at : (a b c : Bool) → (first_b : ℕ) → List Node → ℕ → Node
next_at a b c first_b nodes place =
    if nat_lt place 2 then at_place nodes place else
    next_node (place % 2 == 1)
    (if nat_lt place 4 then c else (at_place nodes (place / 2)).output)
    (if nat_lt place first_b then a else b)
    (at_place nodes place).carry

-- the tree after one feed of the lines a, b and c
abbrev pub after_feed : (a b c : Bool) → TreeState → TreeState
after_feed a b c tree = record tree {
  nodes = tabulate (2 ^ (tree.nx + tree.ny + 1)) (next_at a b c (2 ^ (tree.nx + 1)) tree.nodes);
}
