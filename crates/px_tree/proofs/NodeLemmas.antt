-- What each node holds while one linear form is fed.
use Rattle.px_num.proofs.Basics.{nat_tests, common_steps, ◌≡◌, ℕ, zero, suc, ◌+◌, ◌-◌, ◌/◌, ◌^◌, ◌<◌, ◌≤◌, ◌==◌, ◌&&◌}
use Rattle.px_num.proofs.Basics.{ℤ, pos, ◌+ℤ◌, Bool, true, false, cond, nat_lt, refl, sym, ◌∙◌, arith, inl, inr}
use Rattle.px_num.proofs.Basics.{cases_lt, get_or-replicate}
use Rattle.px_num.proofs.BitLaws.{pow_above}
use Rattle.px_num.specs.Bits.{carry_from}
use Rattle.px_num.proofs.ListLaws.{get_or-tabulate}
use Rattle.px_num.specs.declared.linear.Linear.{Linear}
use Rattle.px_tree.specs.declared.node.Node.{Node}
use Rattle.px_tree.specs.Feeds.{delayed_bit, fed_form, lines_at}
use Rattle.px_tree.specs.Nodes.{next_node, node_at}
use Rattle.px_tree.specs.Sums.{HoldsSums, partial_sum, weight}
use Rattle.px_tree.specs.TreeBit.{IsFedByTable, NodesHoldSums}
use Rattle.px_num.proofs.AdderLaws.{sum_bit}
use Rattle.px_num.proofs.TruthLaws.{and_false, double_pow, lt_false, lt_true, power_grows, suc_not_zero}
use Rattle.px_tree.proofs.DelayLemmas.{delayed_after, delayed_before, delayed_more}
use Rattle.px_tree.proofs.PlaceLaws.{place_below}

in_nodes : (nx ny k index : ℕ) → suc k ≤ nx + ny → index < 2 ^ suc k → 2 ^ suc k + index < 2 ^ (nx + ny + 1)
in_nodes nx ny k index in_tree in_level = place_below (nx + ny) (suc k) index in_tree in_level

-- only the nodes of level 1 are below place 4
root_test : (k index : ℕ) → index < 2 ^ suc k → nat_lt (2 ^ suc k + index) 4 ≡ (k == 0)
root_test zero index below = lt_true _ _ (omega arith)
root_test (suc k) index below =
    lt_false _ _ (omega (arith, double_pow (suc k), double_pow k, pow_above k)) ∙ sym (suc_not_zero k)

-- line a comes to the levels up to nx
line_test : (a b : Bool) (nx k index : ℕ) → index < 2 ^ suc k
    → cond (nat_lt (2 ^ suc k + index) (2 ^ (nx + 1))) a b ≡ cond (nat_lt nx (suc k)) b a
line_test a b nx k index below = grind (arith, nat_tests, common_steps, cases_lt, power_grows, lt_true, lt_false)

pub is_fed_by_table : IsFedByTable
is_fed_by_table tree a b c k index in_tree in_level =
    grind (arith, lt_false, double_pow, pow_above, get_or-tabulate, in_nodes, root_test, line_test)

-- one feed of a node, where u has come together above it and w is what it adds
module _ (u w : ℤ) (k s : ℕ) where
  abbrev held : Bool → ℕ → Node
  held odd feeds = record {
    output = delayed_bit (suc k) (u +ℤ cond odd w (pos 0)) feeds;
    carry = odd && carry_from false u w (feeds - k);
  }

  abbrev fed : Bool → Node
  fed odd = next_node odd (delayed_bit k u s) (delayed_bit k w s) (odd && carry_from false u w (s - k))

  -- nothing has come yet
  waits : (odd : Bool) → s < k → fed odd ≡ held odd (suc s)
  waits true before = grind (arith, delayed_before)
  waits false before = grind (arith, delayed_before)

  -- bit s - k comes
  adds : (odd : Bool) → k ≤ s → fed odd ≡ held odd (suc s)
  adds true after =
      let now : s ≡ (s - k) + k = omega arith in
      let then : suc s ≡ (s - k) + suc k = omega arith in
      let next : suc s - k ≡ suc (s - k) = omega arith in
      grind (arith, delayed_after, sum_bit)
  adds false after = grind (arith, delayed_after)

  step : (odd : Bool) → fed odd ≡ held odd (suc s)
  step odd = elim (cases_lt s k) [ inl before ↦ waits odd before | inr after ↦ adds odd after ]

same_next : (odd p q d e k l : Bool) → p ≡ q → d ≡ e → k ≡ l → next_node odd p d k ≡ next_node odd q e l
same_next odd p q d e k l parent line carry = cc

module _ (form : Linear) (nx ny : ℕ) where
  pub fed_nx : (s : ℕ) → (fed_form form nx ny s).nx ≡ nx
  fed_nx zero = refl
  fed_nx (suc s) = fed_nx s

  pub fed_ny : (s : ℕ) → (fed_form form nx ny s).ny ≡ ny
  fed_ny zero = refl
  fed_ny (suc s) = fed_ny s

  -- the line that comes to a level brings what its odd nodes add
  line_is : (s k : ℕ) → suc k ≤ nx + ny → cond (nat_lt nx (suc k))
      (lines_at form nx ny s).b (lines_at form nx ny s).a ≡ delayed_bit k (weight form nx ny (suc k)) s
  line_is s k in_tree = grind (arith, cases_lt, lt_true, delayed_more, lt_false)

  -- the output above a node, and line c above level 1
  parent_is : (s : ℕ) → HoldsSums form nx ny s (fed_form form nx ny s) → (k index : ℕ) → suc k ≤ nx + ny
      → index < 2 ^ suc k
      → cond (k == 0) (lines_at form nx ny s).c (node_at (fed_form form nx ny s) k (index / 2)).output
      ≡ delayed_bit k (partial_sum form nx ny k (index / 2)) s
  parent_is s hold zero index in_tree in_level = sym (delayed_after 0 form.c s s (omega arith))
  parent_is s hold (suc k) index in_tree in_level = grind (arith, double_pow, suc_not_zero)

  all_hold : (s : ℕ) → HoldsSums form nx ny s (fed_form form nx ny s)
  all_hold zero k index in_tree in_level = grind (arith, get_or-replicate, in_nodes, delayed_before, and_false)
  all_hold (suc s) k index in_tree in_level =
      grind (arith, fed_nx, fed_ny, cond, line_is, is_fed_by_table, same_next, parent_is, step, all_hold s)

pub nodes_hold_sums : NodesHoldSums
nodes_hold_sums form nx ny s = all_hold form nx ny s
