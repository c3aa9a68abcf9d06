use Rattle.px_state.proofs.Cited.{ap, row_bit, shuffled, ◌∙◌}
use Rattle.px_state.proofs.TurningLemmas.{shuffled_below, shuffled_often}
use Rattle.px_state.proofs.turning.turned_block.Goals as goal

pub returns : goal.returns
returns c = λ p w.
    let one = shuffled_below p w in
    let two = shuffled_below (shuffled p) one in
    let three = shuffled_below (shuffled (shuffled p)) two in
    let four = shuffled_below (shuffled (shuffled (shuffled p))) three in
    let five = shuffled_below (shuffled (shuffled (shuffled (shuffled p)))) four in
    c.shuffled.ensures p w ∙ (c.shuffled-fifth.ensures _ one ∙ (c.shuffled-fourth.ensures _ two
    ∙ (c.shuffled-third.ensures _ three ∙ (c.shuffled-second.ensures _ four ∙ (c.shuffled-first.ensures _ five
    ∙ ap (row_bit c.args.block.now) (shuffled_often p w))))))
