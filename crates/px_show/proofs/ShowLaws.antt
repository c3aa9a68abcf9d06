-- A line of an expression with no fault has a lawful one, over the solids that stand before it.
use Rattle.px_num.proofs.Basics.{◌≡◌, ℕ, ◌+◌, ◌<◌, ◌≤◌, List, [], ◌∷◌, length, true, Option, Some, None, IsSomeAnd}
use Rattle.px_num.proofs.Basics.{refl, ap, arith, nat_tests}
use Rattle.px_show.proofs.Words.{all_steps, are_known, both, cause_in, counts_past, expression_of, HasLeavesBelow}
use Rattle.px_show.proofs.Words.{is_among, judged, leaf_count, leaves, limit_in, Named, named_nesting, over_places}
use Rattle.px_show.proofs.Words.{Part, place_of, show_cause, show_tree, Step, tokens_of, Tree, tree_steps, Version}
use Rattle.px_show.proofs.Words.{whole, Words}
use Rattle.px_expr.specs.declared.node.TheConstants.{MAX_LEAVES, MAX_NESTING}
use Rattle.px_show.specs.Expressions.{leaf, join}
use Rattle.px_expr.specs.Tree as shown

place_below : (names : Words) (name : List ℕ) → is_among names name ≡ true → place_of names name < length names
place_below [] name e = cc
place_below (n ∷ ns) name e = grind (arith, place_below ns name)

known_below : (names : Words) (tree : Named) → are_known names tree ≡ true
    → HasLeavesBelow (length names) (over_places names tree)
known_below names (leaf name) e = place_below names name e
known_below names (join op left right) e =
    let each = both (are_known names left) (are_known names right) e
    in (known_below names left each.0, known_below names right each.1)

-- what no cause says of an expression
record IsKnown (names : Words) (read : Option Named) : Type 0 where
  tree : Named
  is : read ≡ Some tree
  known : are_known names tree ≡ true

good_cause : (names : Words) (read : Option Named) → cause_in names read ≡ None → IsKnown names read
good_cause names x e = grind arith

pub shown_lawful : (version : Version) (names ws : Words) → show_cause version names ws ≡ None
    → IsSomeAnd (show_tree version names ws) (HasLeavesBelow (length names))
shown_lawful version names ws e = grind (arith, good_cause, known_below)

-- an expression names some solid
some_leaf : (count : ℕ) (tree : Tree) → HasLeavesBelow count tree → 0 < count
some_leaf count (shown.leaf place) below = omega arith
some_leaf count (shown.join op left right) below = some_leaf count left below.0

pub named_show : (version : Version) (names ws : Words) → show_cause version names ws ≡ None → 0 < length names
named_show version names ws e =
    let good = good_cause names (expression_of (tokens_of version ws)) e
    in some_leaf (length names) (over_places names good.tree) (known_below names good.tree good.known)

pub same_leaves : (names : Words) (tree : Named) → leaf_count (over_places names tree) ≡ leaves tree
same_leaves names (leaf name) = refl
same_leaves names (join op left right) = omega (arith, same_leaves names left, same_leaves names right)

pub same_nesting : (names : Words) (tree : Named) → shown.nesting (over_places names tree) ≡ named_nesting tree
same_nesting names (leaf name) = refl
same_nesting names (join op left right) = ap (λ n. n + 1) (cc (same_nesting names left, same_nesting names right))

within : (l n : ℕ) → counts_past l n ≡ None → (l ≤ MAX_LEAVES) × (n ≤ MAX_NESTING)
within l n e = (grind (arith, nat_tests), grind (arith, nat_tests))

-- the steps of what is read without a fault build a small expression
pub small_steps : (names : Words) (read : List Part) (steps : List Step) → steps ≡ all_steps names read
    → judged (cause_in names (whole read)) (limit_in (whole read)) ≡ None
    → (tree : Tree) × (steps ≡ tree_steps tree) × (leaf_count tree ≤ MAX_LEAVES) × (shown.nesting tree ≤ MAX_NESTING)
small_steps names x steps order e = grind (arith, within, same_leaves, same_nesting)
