use Rattle.px_num.proofs.Basics.{◌∙◌, sym}
use Rattle.px_shadow.proofs.SayingLemmas.{nothing_more}
use Rattle.px_shadow.proofs.light.Said.with.Goals as goal

pub returns-in-Nothing : goal.returns-in-Nothing
returns-in-Nothing c ws e =
    let ss = c.args.scene.now.solids in
    c.first_word.ensures ss ∙ nothing_more ss ws c.args.word.now (sym c.in-Nothing.is ∙ e)
