use Rattle.px_scene.proofs.TextWalkLemmas.{parts_are_text, parts_read}
use Rattle.px_scene.proofs.write.write_scene.Goals as goal

pub returns-clause-text : goal.returns-clause-text
returns-clause-text c =
    parts_are_text c.args.scene.now c.loop-solid.solid-index _ _ _
    (rw c.solids-solid-items.ensures.value at c.loop-solid-test.false) c.loop-solid.invariant.text
    c.in_ok-put_show.ensures.text c.in_ok-put_line.ensures

pub returns-clause-again : goal.returns-clause-again
returns-clause-again c =
    parts_read c.args.scene.now c.loop-solid.solid-index _
    (rw c.solids-solid-items.ensures.value at c.loop-solid-test.false) (returns-clause-text c)
    c.solids-solid-items.ensures.lawful c.loop-solid.invariant.lawful c.in_ok-put_show.ensures.lawful
