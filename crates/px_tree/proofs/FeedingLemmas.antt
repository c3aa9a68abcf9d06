-- A list of nodes that are known place by place.
use Rattle.px_num.proofs.Basics.{◌≡◌, ℕ, ◌<◌, ◌≤◌, Bool, List, length, sym, inl, inr, ◌∙◌, arith, cases_lt}
use Rattle.px_num.proofs.Basics.{common_steps}
use Rattle.px_num.proofs.ListLaws.{is_tabulate}
use Rattle.px_num.specs.Lists.{tabulate}
use Rattle.px_tree.specs.declared.node.Node.{Node}
use Rattle.px_tree.specs.Nodes.{at_place, next_at, zero_node}

-- the two places above the tree stay
low_stays : (a b c : Bool) (first_b : ℕ) (old : List Node) (place : ℕ) → place < 2 → next_at a b c first_b old place
    ≡ at_place old place
low_stays a b c first_b old place low = grind (arith, common_steps)

-- all nodes, where those from `place` on were fed and the others are as before
pub all_fed : (a b c : Bool) (first_b : ℕ) (old new : List Node) (place : ℕ) → length new ≡ length old → place ≤ 2
    → ((k : ℕ) → k < place → at_place new k ≡ at_place old k)
    → ((k : ℕ) → place ≤ k → k < length new → at_place new k ≡ next_at a b c first_b old k)
    → new ≡ tabulate (length old) (next_at a b c first_b old)
all_fed a b c first_b old new place same_length at_root untouched fed =
    is_tabulate new (length old) (next_at a b c first_b old) zero_node same_length (λ k within.
    elim (cases_lt k place) [
      | inl before ↦ let above : k < 2 = omega arith in untouched k before ∙ sym (low_stays a b c first_b old k above)
      | inr after ↦ let in_new : k < length new = omega arith in fed k after in_new
    ])
