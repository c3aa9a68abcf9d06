use Rattle.px_state.proofs.Cited.{acted, ap, HoldsPixels, subst, sym, ◌∙◌}
use Rattle.px_state.proofs.ActingLemmas.{none_acted}
use Rattle.px_state.proofs.clocks.act_by_nodes.Goals as goal

pub returns-in-Nop-clause-pixels : goal.returns-in-Nop-clause-pixels
returns-in-Nop-clause-pixels c = λ s grid pixels nodes.
    let shape = c.args.shape.now in
    subst (λ kept. HoldsPixels shape kept c.args.words.now)
    (sym (ap (λ act. acted act s.tree s.pixels) c.in-Nop.is ∙ none_acted shape.bits shape.nx shape.ny s grid)) pixels
