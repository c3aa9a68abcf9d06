use Rattle.px_state.proofs.Cited.{act_number, act_with, ap, lines_number, memory_place, packed_value, sym, tree_number}
use Rattle.px_state.proofs.Cited.{tree_with, ◌==◌, ◌∙◌}
use Rattle.px_state.proofs.PackingLemmas.{act_back, bit_back, tree_back}
use Rattle.px_state.proofs.packing.law_of_packing.Goals as goal

pub returns : goal.returns
returns c word m n one other =
    let place = sym one.place ∙ other.place in
    let number = sym one.number ∙ other.number in
    let bit = sym one.value ∙ other.value in
    let value = sym (bit_back (packed_value m.act)) ∙ (ap (λ b. b == 1) bit ∙ bit_back (packed_value n.act)) in
    let op = sym one.tree ∙ other.tree in
    let lines = sym one.lines ∙ other.lines in
    let act = sym (act_back m.act) ∙ (ap (λ k. act_with k (packed_value m.act) (memory_place m.act)) number
    ∙ (ap (λ v. act_with (act_number n.act) v (memory_place m.act)) value
    ∙ (ap (λ at. act_with (act_number n.act) (packed_value n.act) at) place ∙ act_back n.act))) in
    let tree = sym (tree_back m.tree) ∙ (ap (λ k. tree_with k (lines_number m.tree)) op
    ∙ (ap (λ k. tree_with (tree_number n.tree) k) lines ∙ tree_back n.tree)) in
    ap (λ t. record { tree = t; act = m.act }) tree ∙ ap (λ a. record { tree = n.tree; act = a }) act
