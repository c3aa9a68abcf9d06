-- The nodes of a tree whose latches are in words.
use Rattle.px_state.proofs.Cited.{after_feed, ap, arith, at_place, bit_of_zero, Bool, cases_lt, cleared, cond, eqb}
use Rattle.px_state.proofs.Cited.{false, get_or, get_or-tabulate, HoldsNodes, inl, inr, IsLatch, IsNodeWord}
use Rattle.px_state.proofs.Cited.{IsShapeOf, Lines, List, lt_false, lt_true, nat_bit, nat_le, nat_lt, next_node, Node}
use Rattle.px_state.proofs.Cited.{node_bit, nodes_at, padded_leaf, placed, pow-add, power_grows, refl, Shape, sym}
use Rattle.px_state.proofs.Cited.{TreeState, zero_node, ℕ, ◌%◌, ◌&&◌, ◌*◌, ◌+◌, ◌/◌, ◌<◌, ◌==◌, ◌^◌, ◌∙◌, ◌≡◌, ◌≤◌}
use Rattle.std.specs.Prelude.{if◌then◌else◌}
use Rattle.px_num.proofs.Basics.{get_or-replicate}
use Rattle.px_tree.specs.Nodes.{next_at}
use Rattle.px_state.proofs.ShapeLemmas.{plane_end}

-- the parents of nodes, of which the root is line c
pub parents_root : (word j : ℕ) (c : Bool) → 2 ≤ j → j < 64
    → cond (nat_lt (j / 2) 2) (c && eqb (j / 2) 1) (nat_bit word (j / 2)) ≡ cond (nat_lt j 4) c (nat_bit word (j / 2))
parents_root word j c some within = grind arith

where_nodes_are : (n p : ℕ) (there word latch zero : Bool) → there ≡ (nat_le 2 p && nat_lt p n)
    → (2 ≤ p → p < n → word ≡ latch) → zero ≡ false
    → cond there word zero ≡ (if nat_lt p 2 then false else if nat_lt p n then latch else false)
where_nodes_are n p there word latch zero is each none = grind arith

-- a word with the bits f of the nodes that there are has the latches of a tree whose nodes have these bits
pub masked : (shape : Shape) (tree : TreeState) → IsShapeOf shape tree → (latch : Node → Bool) (there word w : ℕ)
    → ((j : ℕ) → j < 64
    → nat_bit there j ≡ (nat_le 2 (64 * w + j) && nat_lt (64 * w + j) (2 ^ (shape.nx + shape.ny + 1))))
    → ((j : ℕ) → j < 64 → 2 ≤ 64 * w + j → 64 * w + j < 2 ^ (shape.nx + shape.ny + 1)
    → nat_bit word j ≡ latch (at_place tree.nodes (64 * w + j)))
    → (j : ℕ) → j < 64 → cond (nat_bit there j) (nat_bit word j) (nat_bit 0 j) ≡ node_bit latch tree (64 * w + j)
masked shape tree size latch there word w is each j within =
    rw (size.columns, size.rows)
    (where_nodes_are _ (64 * w + j) _ _ _ _ (is j within) (each j within) (bit_of_zero j))

module _ (shape : Shape) (tree : TreeState) (size : IsShapeOf shape tree) where
  abbrev total : ℕ
  total = 2 ^ (shape.nx + shape.ny + 1)

  pub node_inside : (latch : Node → Bool) (p : ℕ) → 2 ≤ p → p < total
      → node_bit latch tree p ≡ latch (at_place tree.nodes p)
  node_inside latch p some inside = rw (size.columns, size.rows, lt_false p 2 some, lt_true p total inside) refl

  -- a feed, by the word of the parents' outputs and that of the carries
  module _ (lines : Lines) (w parents carry above line : ℕ) (outputs : IsNodeWord (λ n. n.output) tree (w / 2) parents)
      (carries : IsNodeWord (λ n. n.carry) tree w carry)
      (above_is : (j : ℕ) → j < 64 → 2 ≤ 64 * w + j → nat_bit above j
      ≡ cond (nat_lt (64 * w + j) 4) lines.c (nat_bit parents (32 * (w % 2) + j / 2)))
      (line_is : (j : ℕ) → j < 64 → nat_bit line j
      ≡ cond (nat_lt (64 * w + j) (2 ^ (shape.nx + 1))) lines.a lines.b) where
    fed_node : (j : ℕ) → j < 64 → 2 ≤ 64 * w + j → 64 * w + j < total
        → next_node (j % 2 == 1) (nat_bit above j) (nat_bit line j) (nat_bit carry j)
        ≡ at_place (after_feed lines.a lines.b lines.c tree).nodes (64 * w + j)
    fed_node j within some inside =
        let p = 64 * w + j in
        let odd : j % 2 ≡ p % 2 = omega arith in
        let half : 64 * (w / 2) + (32 * (w % 2) + j / 2) ≡ p / 2 = omega arith in
        let latch : nat_bit carry j ≡ (at_place tree.nodes p).carry =
        carries j within ∙ node_inside (λ n. n.carry) p some inside in
        let parent : cond (nat_lt p 4) lines.c (nat_bit parents (32 * (w % 2) + j / 2))
        ≡ cond (nat_lt p 4) lines.c (at_place tree.nodes (p / 2)).output =
        elim (cases_lt p 4) [
          | inl root ↦ rw (lt_true p 4 root) refl
          | inr deep ↦ rw (lt_false p 4 deep) (outputs (32 * (w % 2) + j / 2) (omega arith)
              ∙ (ap (node_bit (λ n. n.output) tree) half
              ∙ node_inside (λ n. n.output) (p / 2) (omega arith) (omega arith)))
        ] in
        rw (size.columns, size.rows, above_is j within some, parent, line_is j within, latch, odd)
        (sym (get_or-tabulate total (next_at lines.a lines.b lines.c (2 ^ (shape.nx + 1)) tree.nodes) p zero_node inside
        ∙ rw (lt_false p 2 some) refl))

    pub fed_latch : (latch : Node → Bool) (there word : ℕ)
        → ((j : ℕ) → j < 64 → nat_bit there j ≡ (nat_le 2 (64 * w + j) && nat_lt (64 * w + j) total))
        → ((j : ℕ) → j < 64
        → nat_bit word j ≡ latch (next_node (j % 2 == 1) (nat_bit above j) (nat_bit line j) (nat_bit carry j)))
        → (j : ℕ) → j < 64 → cond (nat_bit there j) (nat_bit word j) (nat_bit 0 j)
        ≡ node_bit latch (after_feed lines.a lines.b lines.c tree) (64 * w + j)
    fed_latch latch there word is made =
        masked shape (after_feed lines.a lines.b lines.c tree) (record { columns = size.columns; rows = size.rows })
        latch there word w is (λ j within some inside. made j within ∙ ap latch (fed_node j within some inside))

  -- the latches of a tree that is cleared
  pub none : (latch : Node → Bool) (p : ℕ) → latch zero_node ≡ false → node_bit latch (cleared tree.nx tree.ny) p ≡ false
  none latch p zero = grind (arith, lt_true, get_or-replicate)

  pub cleared_nodes : (words : List ℕ) → ((k : ℕ) → k < 2 * shape.nodes → get_or words (nodes_at shape + k) 0 ≡ 0)
      → HoldsNodes shape (cleared tree.nx tree.ny) words
  cleared_nodes words zero = record {
    output = λ k within i bit. rw (zero k (omega arith), none (λ n. n.output) (64 * k + i) refl) (bit_of_zero i);
    carry = λ k within i bit.
        let place : nodes_at shape + shape.nodes + k ≡ nodes_at shape + (shape.nodes + k) = omega arith in
        rw (place, zero (shape.nodes + k) (omega arith), none (λ n. n.carry) (64 * k + i) refl) (bit_of_zero i);
  }

  -- a leaf is the node behind those of the levels above
  pub leaf_law : (nodes : List ℕ)
      → ((k : ℕ) → k < shape.nodes → IsNodeWord (λ n. n.output) tree k (get_or nodes k 0)) → (x y : ℕ) → y < 2 ^ shape.ny
      → placed shape nodes (2 ^ shape.nx) x y ≡ padded_leaf tree x y
  leaf_law nodes held x y row = rw size.columns (elim (cases_lt x (2 ^ shape.nx)) [
    | inr past ↦ rw (lt_false x (2 ^ shape.nx) past) refl
    | inl column ↦
        let p = (2 ^ shape.nx + x) * 2 ^ shape.ny + y in
        let leaves : 2 ^ (shape.nx + shape.ny) ≡ 2 ^ shape.nx * 2 ^ shape.ny = pow-add 2 shape.nx shape.ny in
        let twice : total ≡ 2 * 2 ^ (shape.nx + shape.ny) = omega (arith, pow-add 2 (shape.nx + shape.ny) 1) in
        let place : p ≡ 2 ^ (shape.nx + shape.ny) + (x * 2 ^ shape.ny + y) = omega (arith, leaves) in
        let within : x * 2 ^ shape.ny + y < 2 ^ (shape.nx + shape.ny) =
        omega (arith, leaves, plane_end x (2 ^ shape.nx) (2 ^ shape.ny) column) in
        let some : 2 ≤ 2 ^ (shape.nx + shape.ny) = power_grows 1 (shape.nx + shape.ny) (omega (arith, shape.grid)) in
        let inside : p < total = omega (arith, place, within, twice) in
        let whole : 64 * (p / 64) + p % 64 ≡ p = omega arith in
        rw (lt_true x (2 ^ shape.nx) column, size.rows)
        (held (p / 64) (omega (arith, inside, shape.nodes_are)) (p % 64) (omega arith)
        ∙ (ap (node_bit (λ n. n.output) tree) whole ∙ (node_inside (λ n. n.output) p (omega (arith, place, some)) inside
        ∙ ap (λ p. (at_place tree.nodes p).output) place)))
  ])

-- a word of nodes more, and those that were written before
module _ (shape : Shape) (latch : Node → Bool) (tree : TreeState) (from v word : ℕ) (old new : List ℕ)
    (put : get_or new (from + v) 0 ≡ word)
    (kept : (k : ℕ) → k < shape.nodes → (k ≡ v → ⊥) → get_or new (from + k) 0 ≡ get_or old (from + k) 0)
    (is : IsNodeWord latch tree v word) where
  pub one_more_word : (k : ℕ) → k < shape.nodes
      → ((k ≡ v → ⊥) → IsNodeWord latch tree k (get_or old (from + k) 0))
      → IsNodeWord latch tree k (get_or new (from + k) 0)
  one_more_word k h p = grind arith

-- the word of a row of latches, where there are nodes
pub latch_word : (tree : TreeState) (latch : Node → Bool) (row : List ℕ) (w j : ℕ) → IsLatch tree latch row → j < 64
    → 64 * w + j < 2 ^ (tree.nx + tree.ny + 1) → nat_bit (get_or row w 0) j ≡ latch (at_place tree.nodes (64 * w + j))
latch_word tree latch row w j is within inside = grind arith
