-- The sums that come together in the tree while one linear form is fed. Clauses of public calls stand on it.
use Rattle.std.specs.Prelude.{◌≡◌, ℕ, zero, suc, ◌+◌, ◌-◌, ◌/◌, ◌%◌, ◌^◌, ◌<◌, ◌≤◌, ◌==◌, ℤ, pos, ◌+ℤ◌, ◌*ℤ◌}
use Rattle.std.specs.Prelude.{false, ◌&&◌, if◌then◌else◌, nat_lt}
use Rattle.px_num.specs.Bits.{carry_from}
use Rattle.px_num.specs.declared.linear.Linear.{Linear}
use Rattle.px_tree.specs.declared.node.Node.{Node}
use Rattle.px_tree.specs.Feeds.{delayed_bit}
use Rattle.px_tree.specs.Nodes.{TreeState, node_at}

-- what the odd nodes of a level add: a for each column of their step to the right, or b for each row of it
abbrev pub weight : Linear → (nx ny level : ℕ) → ℤ
weight form nx ny level =
    if nat_lt nx level then form.b *ℤ pos (2 ^ (nx + ny - level)) else form.a *ℤ pos (2 ^ (nx - level))

-- the sum on the way from the root to a node
abbrev pub partial_sum : Linear → (nx ny level index : ℕ) → ℤ
partial_sum form nx ny zero index = form.c
partial_sum form nx ny (suc k) index =
    partial_sum form nx ny k (index / 2) +ℤ (if index % 2 == 1 then weight form nx ny (suc k) else pos 0)

-- node `index` of level k + 1 after s feeds: its output is bit s - (k + 1) of its sum, and 0 before that bit has
-- come; its carry, in an odd node, is what that sum has carried so far
abbrev pub held_node : Linear → (nx ny s k index : ℕ) → Node
held_node form nx ny s k index = record {
  output = delayed_bit (suc k) (partial_sum form nx ny (suc k) index) s;
  carry = (index % 2 == 1) && carry_from false (partial_sum form nx ny k (index / 2)) (weight form nx ny (suc k))
      (s - k);
}

-- every node of a tree holds what s feeds of a form leave there
abbrev pub HoldsSums : Linear → (nx ny s : ℕ) → TreeState → Type 0
HoldsSums form nx ny s tree = (k index : ℕ) → suc k ≤ nx + ny → index < 2 ^ suc k →
    node_at tree (suc k) index ≡ held_node form nx ny s k index
