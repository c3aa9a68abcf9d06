-- The steps of a tree build it.
use Rattle.px_num.proofs.Basics.{zero, suc, ◌≡◌, ℕ, ◌<◌, ◌≤◌, List, [], ◌∷◌, ◌++◌, length, take, get_or, fold, refl}
use Rattle.px_num.proofs.Basics.{ap, ◌∙◌, arith, ◌+◌, drop, max, sym, take-append-drop, fold-append, fold_more}
use Rattle.px_show.proofs.Words.{joined, leaf_count, nesting, Op, Step, Tree, tree_steps, trees_built}
use Rattle.px_expr.specs.Tree.{leaf, join}
use Rattle.px_expr.specs.Waiting.{newest, all_leaves}
use Rattle.px_show.specs.declared.stack.Step.TheVariants as s

pub build_tree : (trees : List Tree) (tree : Tree) → fold trees_built trees (tree_steps tree) ≡ tree ∷ trees
build_tree trees (leaf place) = refl
build_tree trees (join op left right) =
    grind (arith, fold-append, build_tree trees left, build_tree (left ∷ trees) right)

abbrev CanTake : ℕ → Step → Type 0
CanTake waiting (s.Leaf place) = Unit {0}
CanTake waiting (s.Join op) = 2 ≤ waiting

-- each step in its turn can be taken
abbrev AllTaken : List Tree → List Step → Type 0
AllTaken trees [] = Unit {0}
AllTaken trees (step ∷ steps) = CanTake (length trees) step × AllTaken (trees_built trees step) steps

taken_both : (trees : List Tree) (xs ys : List Step) → AllTaken trees xs → AllTaken (fold trees_built trees xs) ys
    → AllTaken trees (xs ++ ys)
taken_both trees [] ys first second = second
taken_both trees (x ∷ xs) ys first second = (first.0, taken_both (trees_built trees x) xs ys first.1 second)

taken_tree : (trees : List Tree) (tree : Tree) → AllTaken trees (tree_steps tree)
taken_tree trees (leaf place) = (tt, tt)
taken_tree trees (join op left right) =
    grind (arith, taken_both, build_tree, fold-append, taken_tree trees left, taken_tree (left ∷ trees) right)

taken_at : (trees : List Tree) (steps : List Step) (i : ℕ) (any : Step) → AllTaken trees steps → i < length steps
    → CanTake (length (fold trees_built trees (take i steps))) (get_or steps i any)
taken_at trees [] i any all lt = absurd (omega arith)
taken_at trees (x ∷ xs) zero any all lt = all.0
taken_at trees (x ∷ xs) (suc i) any all lt = taken_at (trees_built trees x) xs i any all.1 (omega arith)

can_take : (tree : Tree) (steps : List Step) (i : ℕ) (any : Step) → steps ≡ tree_steps tree → i < length steps
    → CanTake (length (fold trees_built [] (take i steps))) (get_or steps i any)
can_take tree steps i any is lt = taken_at [] steps i any (rw is (taken_tree [] tree)) lt

-- a join finds its two sides
pub can_join : (tree : Tree) (steps : List Step) (waiting : List Tree) (i : ℕ) (step : Step) (op : Op)
    → steps ≡ tree_steps tree → i < length steps
    → waiting ≡ fold trees_built [] (take i steps) → get_or steps i step ≡ s.Join op → 2 ≤ length waiting
can_join tree steps waiting i step op is lt now here = rw now (rw here at (can_take tree steps i step is lt))

-- what no step makes less is at most what it is of the whole tree
never_falls : (measure : List Tree → ℕ)
    → ((trees : List Tree) (step : Step) → measure trees ≤ measure (trees_built trees step))
    → (trees : List Tree) (steps : List Step) → measure trees ≤ measure (fold trees_built trees steps)
never_falls measure each trees [] = omega arith
never_falls measure each trees (step ∷ steps) =
    omega (arith, each trees step, never_falls measure each (trees_built trees step) steps)

at_most : (measure : List Tree → ℕ)
    → ((trees : List Tree) (step : Step) → measure trees ≤ measure (trees_built trees step))
    → (tree : Tree) (steps : List Step) (waiting : List Tree) (i : ℕ) (step : Step) → steps ≡ tree_steps tree
    → i < length steps → waiting ≡ fold trees_built [] (take i steps)
    → measure (trees_built waiting (get_or steps i step)) ≤ measure (tree ∷ [])
at_most measure each tree steps waiting i step is lt now =
    let after = fold trees_built [] (take (i + 1) steps)
    in let here : trees_built waiting (get_or steps i step) ≡ after =
    grind (arith, fold_more)
    in let last : fold trees_built after (drop (i + 1) steps) ≡ tree ∷ [] =
    sym (fold-append trees_built [] (take (i + 1) steps) (drop (i + 1) steps))
    ∙ ap (fold trees_built []) (take-append-drop (i + 1) steps ∙ is) ∙ build_tree [] tree
    in omega (arith, never_falls measure each after (drop (i + 1) steps), ap measure here, ap measure last)

leaves_grow : (trees : List Tree) (step : Step) → all_leaves trees ≤ all_leaves (trees_built trees step)
leaves_grow x y = grind arith

-- the nesting of the deepest tree that waits
abbrev deepest : List Tree → ℕ
deepest [] = 0
deepest (tree ∷ others) = max (nesting tree) (deepest others)

deepens : (trees : List Tree) (step : Step) → deepest trees ≤ deepest (trees_built trees step)
deepens x y = grind arith

newest_most : (trees : List Tree) → nesting (newest trees) ≤ deepest trees
newest_most x = grind arith

-- a tree within the limits leaves room for each of its leaves, and for each join
pub room_for_leaf : (tree : Tree) (steps : List Step) (waiting : List Tree) (i : ℕ) (step : Step) (place : ℕ)
    → steps ≡ tree_steps tree → leaf_count tree ≤ 512 → i < length steps
    → waiting ≡ fold trees_built [] (take i steps) → get_or steps i step ≡ s.Leaf place → all_leaves waiting < 512
room_for_leaf tree steps waiting i step place is few lt now here =
    let most = rw here at (at_most all_leaves leaves_grow tree steps waiting i step is lt now)
    in omega arith

pub room_for_join : (tree : Tree) (steps : List Step) (waiting : List Tree) (i : ℕ) (step : Step) (op : Op)
    → steps ≡ tree_steps tree → nesting tree ≤ 64 → i < length steps → waiting ≡ fold trees_built [] (take i steps)
    → get_or steps i step ≡ s.Join op → nesting (newest (joined join op waiting)) ≤ 64
room_for_join tree steps waiting i step op is flat lt now here =
    let most = rw here at (at_most deepest deepens tree steps waiting i step is lt now)
    in omega (arith, newest_most (joined join op waiting))
