-- Each node of a tree but the root is one node's side, and stands before it.
use Rattle.px_num.proofs.Basics.{ℕ, ◌≡◌, ◌≤◌, ◌<◌, ◌+◌, ◌-◌, ◌==◌, List, [], ◌∷◌, ◌++◌, length, get_or, refl, arith}
use Rattle.px_num.proofs.Basics.{cond, length-append, All, count_by, nat_tests, sum_by-append, zero, suc}
use Rattle.px_expr.proofs.Words.{join, leaf, Node, node_shape, nodes_behind, Op, op_node, parent_count, sides, size}
use Rattle.px_expr.proofs.Words.{Tree}
use Rattle.px_expr.proofs.OperatorLaws.{shape_of_op}
use Rattle.px_expr.proofs.PostorderLemmas.{length-nodes_behind}

some_node : (tree : Tree) → 1 ≤ size tree
some_node (leaf solid) = omega arith
some_node (join op left right) = omega arith

abbrev named : ℕ → Node → ℕ
named place node = count_by (λ side. side == place) (sides (node_shape node))

abbrev one : ℕ → ℕ → ℕ
one side place = cond (side == place) 1 0

one_same : (side place : ℕ) → side ≡ place → one side place ≡ 1
one_same side place same = grind (arith, nat_tests)

one_other : (side place : ℕ) → (side ≡ place → ⊥) → one side place ≡ 0
one_other side place other = grind (arith, nat_tests)

parents_op : (place : ℕ) (op : Op) (l r : ℕ) → parent_count place (op_node op l r ∷ []) ≡ one l place + one r place
parents_op place op l r = rw (shape_of_op op l r) (omega arith)

pub record Parents (place before size count : ℕ) : Type 0 where
  pub low : place < before → count ≡ 0
  pub inside : before ≤ place → place + 1 < before + size → count ≡ 1
  pub high : before + size ≤ place + 1 → count ≡ 0

parents_join : (place before a b left right l r : ℕ) → 1 ≤ a → 1 ≤ b → Parents place before a left
    → Parents place (before + a) b right → (before + a - 1 ≡ place → l ≡ 1) → ((before + a - 1 ≡ place → ⊥) → l ≡ 0)
    → (before + a + b - 1 ≡ place → r ≡ 1) → ((before + a + b - 1 ≡ place → ⊥) → r ≡ 0)
    → Parents place before (a + b + 1) ((left + right) + (l + r))
parents_join place before a b left right l r some others first second l_same l_other r_same r_other = grind arith

pub parents : (place before : ℕ) (tree : Tree) → Parents place before (size tree)
    (parent_count place (nodes_behind before tree))
parents place before (leaf solid) =
    record { low = λ lt. refl; inside = λ le lt. absurd (omega arith); high = λ le. refl }
parents place before (join op left right) =
    let l = before + size left - 1 in let r = before + size left + size right - 1
    in rw (
      sum_by-append (named place) (nodes_behind before left ++ nodes_behind (before + size left) right)
          (op_node op l r ∷ []),
      sum_by-append (named place) (nodes_behind before left) (nodes_behind (before + size left) right),
      parents_op place op l r,
    )
    (parents_join place before (size left) (size right) _ _ _ _ (some_node left) (some_node right)
    (parents place before left) (parents place (before + size left) right)
    (one_same l place) (one_other l place) (one_same r place) (one_other r place))

-- each node from a place on stands behind its sides
abbrev AllBehind : ℕ → List Node → Type 0
AllBehind place [] = Unit {0}
AllBehind place (node ∷ nodes) = All (λ side. side < place) (sides (node_shape node)) × AllBehind (place + 1) nodes

behind_both : (place end : ℕ) (xs ys : List Node) → end ≡ place + length xs → AllBehind place xs → AllBehind end ys
    → AllBehind place (xs ++ ys)
behind_both place end [] ys is first second = let same : place ≡ end = omega arith in rw same second
behind_both place end (x ∷ xs) ys is first second =
    (first.0, behind_both (place + 1) end xs ys (omega arith) first.1 second)

both_behind : (place l r : ℕ) → l < place → r < place → All (λ side. side < place) (l ∷ r ∷ [])
both_behind place l r first second = grind arith

op_behind : (place : ℕ) (op : Op) (l r : ℕ) → l < place → r < place
    → All (λ side. side < place) (sides (node_shape (op_node op l r)))
op_behind place op l r first second = rw (shape_of_op op l r) (both_behind place l r first second)

pub behind_tree : (place : ℕ) (tree : Tree) → AllBehind place (nodes_behind place tree)
behind_tree place (leaf solid) = (λ i any lt. absurd (omega arith), tt)
behind_tree place (join op left right) =
    let length_left = length-nodes_behind place left in let length_right = length-nodes_behind (place + size left) right
    in behind_both place (place + size left + size right) (nodes_behind place left ++ nodes_behind (place + size left)
    right) _
    (omega (arith, length-append (nodes_behind place left) (nodes_behind (place + size left) right)))
    (behind_both place (place + size left) (nodes_behind place left) _ (omega arith) (behind_tree place left)
    (behind_tree (place + size left) right)) (
      op_behind _ op _ _ (omega (arith, some_node left, some_node right))
          (omega (arith, some_node left, some_node right)),
      tt,
    )

pub behind_at : (place : ℕ) (nodes : List Node) (i at : ℕ) (any : Node) → at ≡ place + i → AllBehind place nodes
    → i < length nodes → All (λ side. side < at) (sides (node_shape (get_or nodes i any)))
behind_at place [] i at any is all lt = absurd (omega arith)
behind_at place (x ∷ xs) zero at any is all lt = let same : at ≡ place = omega arith in rw same all.0
behind_at place (x ∷ xs) (suc i) at any is all lt = behind_at (place + 1) xs i at any (omega arith) all.1 (omega arith)
