use Rattle.px_state.proofs.Cited.{◌∙◌}
use Rattle.px_state.proofs.NodeLemmas.{fed_latch}
use Rattle.px_state.proofs.feeding.fed_word.Goals as goal

pub returns-clause-output : goal.returns-clause-output
returns-clause-output c = λ tree size outputs carries j within.
    c.chosen_word.ensures j within
    ∙ fed_latch c.args.shape.now tree size c.args.lines c.args.w c.args.parents c.args.carry c.parents_of-above.result
    c.line_word-line.result outputs carries c.parents_of-above.ensures c.line_word-line.ensures (λ n. n.output)
    c.places-there.result c.next_words-output.result.0 c.places-there.ensures c.next_words-output.ensures.output j within

pub returns-clause-carry : goal.returns-clause-carry
returns-clause-carry c = λ tree size outputs carries j within.
    c.chosen_word-2.ensures j within
    ∙ fed_latch c.args.shape.now tree size c.args.lines c.args.w c.args.parents c.args.carry c.parents_of-above.result
    c.line_word-line.result outputs carries c.parents_of-above.ensures c.line_word-line.ensures (λ n. n.carry)
    c.places-there.result c.next_words-output.result.1 c.places-there.ensures c.next_words-output.ensures.carry j within
