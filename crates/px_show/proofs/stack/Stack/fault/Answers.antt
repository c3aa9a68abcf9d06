use Rattle.px_num.proofs.Basics.{◌<◌, ◌^◌, true, false, length, ap, sym, ◌∙◌, arith, count_by}
use Rattle.px_show.proofs.Words.{counts_past, is_leaf}
use Rattle.px_show.proofs.StackLemmas.{whole_fault, few_counted, few_leaves}
use Rattle.px_show.proofs.stack.Stack.fault.Goals as goal

pub returns-then-has_unknown : goal.returns-then-has_unknown
returns-then-has_unknown c names read same is =
    whole_fault names _ _ read c.in-Some.nesting _ true (rw c.as_slice.ensures.value at c.in-Some.ensures) is same
    (sym c.if-has_unknown.true ∙ rw c.as_slice-in-Some.ensures.value at c.has_unknown.ensures)

few : (c : goal.After-counts_past) → length c.args.self.now.steps.items < 2 ^ 63
few c = omega (arith, c.args.self.now.steps.small, c.args.self.now.steps.ok.0, c.args.self.now.steps.ok.1)

pub returns-else-has_unknown : goal.returns-else-has_unknown
returns-else-has_unknown c names read same is =
    let alone = rw c.as_slice.ensures.value at c.in-Some.ensures
    in c.counts_past.ensures
    (few_leaves _ _ _ c.leaf_count.ensures c.as_slice-else-has_unknown.ensures.value (few c))
    (omega (arith, few c, few_counted names _ _ read c.in-Some.nesting alone is))
    ∙ ap (λ counted. counts_past counted c.in-Some.nesting) (c.leaf_count.ensures
    ∙ ap (count_by is_leaf) c.as_slice-else-has_unknown.ensures.value)
    ∙ whole_fault names _ _ read c.in-Some.nesting _ false alone is same
    (sym c.if-has_unknown.false ∙ rw c.as_slice-in-Some.ensures.value at c.has_unknown.ensures)
