-- The expression of the sample: the union of its blocks as a tree, and its limits.
use Rattle.px_num.proofs.Basics.{◌≡◌, ℕ, zero, suc, ◌+◌, ◌-◌, ◌^◌, ◌<◌, ◌≤◌, ◌==◌, true, if◌then◌else◌, List, [], ◌∷◌}
use Rattle.px_num.proofs.Basics.{◌++◌, append_assoc, codes, get_or, inl, inr, refl, ap, sym, ◌∙◌, arith, cases_lt}
use Rattle.px_num.proofs.Basics.{nat_tests}
use Rattle.px_num.proofs.TruthLaws.{double_pow}
use Rattle.px_expr.specs.Tree.{HasLeavesBelow, IsLawfulTree, Tree, join, leaf, leaf_count, nesting}
use Rattle.px_text.specs.Text.{Words}
use Rattle.px_show.specs.Expressions.{has_signs}
use Rattle.px_show.specs.Printed.{named_by, printed}
use Rattle.px_sample.specs.Sample.{block_name, union_in, union_of}
use Rattle.px_sample.proofs.SampleLemmas.{alone, halved, joined, middle, where_false, where_true}
use Rattle.px_expr.specs.declared.node.Op.TheVariants as o
use Rattle.px_show.specs.declared.scene_version.Version.TheVariants as v

-- the union of blocks, as it is written
unfoldable pub union_tree : (depth first end : ℕ) → Tree
union_tree zero first end = leaf first
union_tree (suc depth) first end =
    if end == first + 1 then leaf first
    else join o.Union (union_tree depth first (middle first end)) (union_tree depth (middle first end) end)

tree_alone : (d first end : ℕ) → end ≡ first + 1 → union_tree (suc d) first end ≡ leaf first
unfolding union_tree
tree_alone d first end e = where_true (end == first + 1) (leaf first) _ (grind (arith, nat_tests))

tree_halved : (d first end : ℕ) → first + 1 < end
    → union_tree (suc d) first end ≡ join o.Union (union_tree d first (middle first end))
    (union_tree d (middle first end) end)
unfolding union_tree
tree_halved d first end more = where_false (end == first + 1) (leaf first) _ (grind (arith, nat_tests))

-- a union as it is printed
printed_joined : (l r : List ℕ) → 40 ∷ (l ++ 32 ∷ 43 ∷ 32 ∷ (r ++ 41 ∷ [])) ≡ joined l r
printed_joined l r = grind (arith, append_assoc)

-- the names of so many solids begin with those of blocks
pub record BeginsWithBlocks (count : ℕ) (names : Words) : Type 0 where
  pub each : (i : ℕ) → i < count → get_or names i [] ≡ block_name i

tree_printed : (names : Words) (count d first end : ℕ) → BeginsWithBlocks count names → first < end → end ≤ count
    → end - first ≤ d → printed (named_by names (union_tree d first end)) ≡ union_in d first end
tree_printed names count zero first end blocks some within deep = absurd (omega arith)
tree_printed names count (suc d) first end blocks some within deep =
    elim (cases_lt (first + 1) end) [
      | inl more ↦
          let m = middle first end in
          let low = tree_printed names count d first m blocks (omega arith) (omega arith) (omega arith) in
          let high = tree_printed names count d m end blocks (omega arith) (omega arith) (omega arith) in
          ap (λ t. printed (named_by names t)) (tree_halved d first end more)
          ∙ printed_joined (printed (named_by names (union_tree d first m)))
          (printed (named_by names (union_tree d m end)))
          ∙ ap (λ t. joined t (printed (named_by names (union_tree d m end)))) low
          ∙ ap (joined (union_in d first m)) high ∙ sym (halved d first end more)
      | inr few ↦
          grind (arith, tree_alone, alone)
    ]

-- what holds of a union of blocks, halved often enough
record IsUnion (count depth : ℕ) (names : Words) (tree : Tree) (leaves : ℕ) : Type 0 where
  below : HasLeavesBelow count tree
  leaves_are : leaf_count tree ≡ leaves
  deep : nesting tree ≤ depth
  signs : has_signs v.One (named_by names tree) ≡ true

one_leaf : (count depth i : ℕ) (names : Words) → i < count → IsUnion count depth names (leaf i) 1
one_leaf count depth i names low = record { below = low; leaves_are = refl; deep = omega arith; signs = refl }

tree_is : (names : Words) (count k d first end : ℕ) → first < end → end ≤ count → end - first ≤ d → end - first ≤ 2 ^ k
    → IsUnion count k names (union_tree d first end) (end - first)
tree_is names count k zero first end some within deep few = absurd (omega arith)
tree_is names count zero (suc d) first end some within deep few = grind (arith, tree_alone, one_leaf)
tree_is names count (suc k) (suc d) first end some within deep few =
    elim (cases_lt (first + 1) end) [
      | inl more ↦
          grind (
            arith,
            middle,
            double_pow,
            tree_halved,
            tree_is names count k d first (middle first end) (omega arith) (omega arith) (omega arith)
                (omega (arith, few, (double_pow k))),
            tree_is names count k d (middle first end) end (omega arith) (omega arith) (omega arith)
                (omega (arith, few, (double_pow k))),
          )
      | inr past ↦
          grind (arith, tree_alone, one_leaf)
    ]

-- the union of n blocks, and the cut taken from it
abbrev pub sample_tree : ℕ → Tree
sample_tree n = join o.Minus (union_tree n 0 n) (leaf n)

pub record IsSampleTree (n : ℕ) (names : Words) : Type 0 where
  pub text : printed (named_by names (sample_tree n)) ≡ codes "(" ++ union_of 0 n ++ codes " - cut)"
  pub below : HasLeavesBelow (n + 1) (sample_tree n)
  pub lawful : IsLawfulTree (sample_tree n)
  pub signs : has_signs v.One (named_by names (sample_tree n)) ≡ true

wider_leaves : (m n : ℕ) (tree : Tree) → m ≤ n → HasLeavesBelow m tree → HasLeavesBelow n tree
wider_leaves m n (leaf i) order below = omega arith
wider_leaves m n (join op left right) order below =
    (wider_leaves m n left order below.0, wider_leaves m n right order below.1)

pub sample_tree_is : (n : ℕ) (names : Words) → 1 ≤ n → n ≤ 200 → BeginsWithBlocks n names
    → get_or names n [] ≡ codes "cut" → IsSampleTree n names
sample_tree_is n names some few blocks cut =
    let all : n - 0 ≡ n = omega arith in
    let union = tree_is names n 8 n 0 n (omega arith) (omega arith) (omega arith) (omega arith) in
    let below = wider_leaves n (n + 1) (union_tree n 0 n) (omega arith) union.below in
    let wide = wider_leaves n 256 (union_tree n 0 n) (omega arith) union.below in
    let same : printed (named_by names (union_tree n 0 n)) ≡ union_of 0 n =
    tree_printed names n n 0 n blocks (omega arith) (omega arith) (omega arith) ∙ ap (λ d. union_in d 0 n) (sym all) in
    grind arith
