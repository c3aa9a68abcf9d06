-- The steps of an expression come from its nodes, and build the live lists that are wanted.
use Rattle.px_num.proofs.Basics.{ℕ, ◌≡◌, ◌+◌, ◌-◌, List, [], ◌∷◌, ◌++◌, length, refl, ap, sym, ◌∙◌, reverse}
use Rattle.px_num.proofs.Basics.{append_assoc, append-nil, fold, arith, Option, reverse-append}
use Rattle.px_normal.proofs.Words.{built, CanBuild, CellBox, crowd, first_past_limit, forms, Forms, join, leaf}
use Rattle.px_normal.proofs.Words.{newest_lists, Node, nodes_behind, nodes_of, of_left, of_right, of_root, Op, Product}
use Rattle.px_normal.proofs.Words.{shape_of_op, size, Step, steps_of, Tree, walked, Wanted, wanted_forms, wanted_lists}
use Rattle.px_expr.specs.Shapes.{op_node}
use Rattle.px_normal.proofs.CrowdLemmas.{wanted_sides}
use Rattle.px_normal.specs.declared.step.Step.TheVariants as s

walked_op : (op : Op) (l r : ℕ) (nodes : List Node) (first : Wanted) (wanted : List Wanted) (known : List Step)
    → walked (op_node op l r ∷ nodes) (first ∷ wanted) known ≡ walked nodes (of_right op first ∷ of_left op first
    ∷ wanted) (s.Join op first ∷ known)
walked_op op l r nodes first wanted known = grind (arith, shape_of_op)

-- the nodes of a tree, read from the root, give its steps
walked_tree : (others : ℕ) (tree : Tree) (nodes : List Node) (first : Wanted) (wanted : List Wanted) (known : List Step)
    → walked (reverse (nodes_behind others tree) ++ nodes) (first ∷ wanted) known ≡ walked nodes wanted
    (steps_of first tree ++ known)
walked_tree others (leaf solid) nodes first wanted known = refl
walked_tree others (join op left right) nodes first wanted known =
    let l = nodes_behind others left in let r = nodes_behind (others + size left) right
    in let i = others + size left - 1 in let j = others + size left + size right - 1
    in let turned : reverse ((l ++ r) ++ op_node op i j ∷ []) ++ nodes ≡ op_node op i j
    ∷ (reverse r ++ (reverse l ++ nodes)) =
    grind (arith, reverse-append, append_assoc)
    in let first_steps = steps_of (of_left op first) left in let second_steps = steps_of (of_right op first) right
    in ap (λ xs. walked xs (first ∷ wanted) known) turned
    ∙ walked_op op i j _ first wanted known
    ∙ walked_tree (others + size left) right _ (of_right op first) (of_left op first ∷ wanted) _
    ∙ walked_tree others left nodes (of_left op first) wanted _
    ∙ ap (walked nodes wanted) (sym (append_assoc first_steps second_steps (s.Join op first ∷ known))
    ∙ sym (append_assoc (first_steps ++ second_steps) (s.Join op first ∷ []) known))

pub walked_all : (nodes : List Node) (tree : Tree) → nodes ≡ nodes_of tree → walked (reverse nodes) (of_root ∷ []) []
    ≡ steps_of of_root tree
walked_all nodes tree is =
    ap (λ xs. walked xs (of_root ∷ []) []) (ap reverse is ∙ sym (append-nil (reverse (nodes_of tree))))
    ∙ walked_tree 0 tree [] of_root [] [] ∙ append-nil (steps_of of_root tree)

module _ (boxes : ℕ → Option CellBox) where
  -- the lists that steps make, each node's in its turn
  abbrev made : List Forms → List Step → List (List Product)
  made lists [] = []
  made lists (step ∷ steps) = newest_lists (built boxes lists step) ++ made (built boxes lists step) steps

  abbrev AllCanBuild : List Forms → List Step → Type 0
  AllCanBuild lists [] = Unit {0}
  AllCanBuild lists (step ∷ steps) = CanBuild (length lists) step × AllCanBuild (built boxes lists step) steps

  -- the steps of a tree leave its lists, and the lists of its nodes are made on the way
  record Builds (wanted : Wanted) (tree : Tree) (lists : List Forms) (steps : List Step) : Type 0 where
    last : fold (built boxes) lists (steps_of wanted tree ++ steps) ≡ fold (built boxes)
        (wanted_forms boxes wanted (forms tree) ∷ lists) steps
    way : made lists (steps_of wanted tree ++ steps) ≡ wanted_lists boxes wanted tree
        ++ made (wanted_forms boxes wanted (forms tree) ∷ lists) steps
    can : AllCanBuild (wanted_forms boxes wanted (forms tree) ∷ lists) steps
        → AllCanBuild lists (steps_of wanted tree ++ steps)

  builds : (wanted : Wanted) (tree : Tree) (lists : List Forms) (steps : List Step) → Builds wanted tree lists steps
  builds wanted (leaf solid) lists steps = record { last = refl; way = refl; can = λ rest. (tt, rest) }
  builds wanted (join op left right) lists steps =
      grind (
        arith,
        append_assoc,
        wanted_sides,
        builds (of_left op wanted) left lists ((steps_of (of_right op wanted) right) ++ s.Join op wanted ∷ steps),
        builds (of_right op wanted) right ((wanted_forms boxes (of_left op wanted) (forms left)) ∷ lists)
            (s.Join op wanted ∷ steps),
      )

  -- the steps that are left, the last first, make the lists of the tree
  pub record IsOnTheWay (tree : Tree) (lists : List Forms) (rest : List Step) : Type 0 where
    pub last : fold (built boxes) lists (reverse rest) ≡ wanted_forms boxes of_root (forms tree) ∷ []
    pub way : first_past_limit (made lists (reverse rest)) ≡ crowd boxes tree
    pub can : AllCanBuild lists (reverse rest)

  pub started : (tree : Tree) (rest given : List Step) (items : List Forms) → rest ≡ given → reverse given
      ≡ steps_of of_root tree → items ≡ [] → IsOnTheWay tree (reverse items) rest
  started tree rest given items same is none =
      let all = builds of_root tree [] []
      in let steps : reverse rest ≡ steps_of of_root tree ++ [] =
      ap reverse same ∙ is ∙ sym (append-nil (steps_of of_root tree))
      in grind (arith, append-nil)

  turned : (rest before : List Step) (step : Step) → rest ≡ before ++ step ∷ [] → reverse rest ≡ step ∷ reverse before
  turned rest before step last = ap reverse last ∙ reverse-append before (step ∷ [])
