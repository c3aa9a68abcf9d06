use Rattle.px_num.proofs.Basics.{sym, ◌∙◌}
use Rattle.px_text.specs.LentWords.{now_of}
use Rattle.px_scene.specs.DraftViews.{view_of}
use Rattle.px_scene.proofs.ParseLemmas.{found, lawful_with}
use Rattle.px_scene.proofs.draft.Draft.add.Goals as goal

pub returns-clause-lawful : goal.returns-clause-lawful
returns-clause-lawful c =
    lawful_with (view_of c.args.self.now) (view_of c.take.new.self) c.due_after-self.result c.args.word.now
    (now_of c.args.arguments.now) _ c.requires c.in_ok-statement.ensures.says (sym c.fault.ensures ∙ c.in_default.is)
    c.in_ok-take.ensures.good c.in_ok-take.ensures.taken c.due_after-self.ensures

pub returns-in-Some-clause-bad : goal.returns-in-Some-clause-bad
returns-in-Some-clause-bad c = λ f is.
    found (view_of c.args.self.now) c.args.word.now (now_of c.args.arguments.now) _ c.in_ok-statement.ensures.says
    ∙ rw (sym c.fault.ensures ∙ c.in-Some.is) (let same = is in cc)
