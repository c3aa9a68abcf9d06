-- What each leaf gives.
use Rattle.px_num.proofs.Basics.{◌≡◌, ℕ, zero, suc, ◌+◌, ◌*◌, ◌^◌, ◌<◌, ◌≤◌, refl, ap, ◌∙◌, arith, ints}
use Rattle.px_num.proofs.Basics.{pow-le-pow_right}
use Rattle.px_num.proofs.BitLaws.{modulo_bit, sign_bit}
use Rattle.px_num.specs.Bits.{bit_of}
use Rattle.px_num.proofs.FormLaws.{value_within}
use Rattle.px_num.specs.Forms.{value_at}
use Rattle.px_tree.specs.declared.node.Node.{Node}
use Rattle.px_tree.specs.Feeds.{fed_form}
use Rattle.px_tree.specs.Nodes.{node_at}
use Rattle.px_tree.specs.Sums.{partial_sum}
use Rattle.px_tree.specs.TreeBit.{LeafGivesSign, LeafGivesTreeBit, LeafGivesValue}
use Rattle.px_tree.proofs.DelayLemmas.{delayed_after}
use Rattle.px_tree.proofs.NodeLemmas.{fed_nx, fed_ny, nodes_hold_sums}
use Rattle.px_tree.proofs.PlaceLaws.{index_below}
use Rattle.px_tree.proofs.SumLemmas.{leaf_sum_is_value}

pub leaf_gives_value : LeafGivesValue
leaf_gives_value form nx ny x y t one_column one_row column row =
    let tree = fed_form form nx ny (t + (nx + ny)) in
    ap (λ n. (node_at tree (n + tree.ny) (x * 2 ^ tree.ny + y)).output) (fed_nx form nx ny (t + (nx + ny)))
    ∙ (ap (λ n. (node_at tree (nx + n) (x * 2 ^ n + y)).output) (fed_ny form nx ny (t + (nx + ny)))
    ∙ at_level (nx + ny) refl)
  where
    at_level : (levels : ℕ) → levels ≡ nx + ny
        → (node_at (fed_form form nx ny (t + (nx + ny))) levels (x * 2 ^ ny + y)).output ≡ bit_of (value_at form x y) t
    at_level zero e = absurd (omega arith)
    at_level (suc k) e =
        let in_level : x * 2 ^ ny + y < 2 ^ suc k = rw e (index_below nx ny x y column row) in
        let in_tree : suc k ≤ nx + ny = omega arith in
        let after : t + (nx + ny) ≡ t + suc k = omega arith in
        let sum = ap (λ level. partial_sum form nx ny level (x * 2 ^ ny + y)) e
        ∙ leaf_sum_is_value form nx ny x y column row in
        ap (λ (n : Node). n.output) (nodes_hold_sums form nx ny (t + (nx + ny)) k (x * 2 ^ ny + y) in_tree in_level)
        ∙ (delayed_after (suc k) (partial_sum form nx ny (suc k) (x * 2 ^ ny + y)) (t + (nx + ny)) t after
        ∙ ap (λ z. bit_of z t) sum)

pub leaf_gives_tree_bit : LeafGivesTreeBit
leaf_gives_tree_bit form nx ny x y t one_column one_row column row low =
    leaf_gives_value form nx ny x y t one_column one_row column row ∙ modulo_bit (value_at form x y) 40 t low

-- a place on a grid of at most 2^9
on_screen : (n place : ℕ) → n ≤ 9 → place < 2 ^ n → place ≤ 511
on_screen n place small below = omega (arith, pow-le-pow_right {n = 2} (omega arith) small)

pub leaf_gives_sign : LeafGivesSign
leaf_gives_sign form nx ny x y range grid column row =
    let within = value_within form x y range (on_screen nx x grid.0.1 column) (on_screen ny y grid.1.1 row) in
    leaf_gives_value form nx ny x y 39 grid.0.0 grid.1.0 column row
    ∙ sign_bit (value_at form x y) 39 (omega (arith, ints, within.0)) (omega (arith, ints, within.1))
