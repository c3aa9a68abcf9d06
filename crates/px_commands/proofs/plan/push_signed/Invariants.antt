use Rattle.px_num.proofs.Basics.{◌≡◌, ◌++◌, take}
use Rattle.px_model.specs.Scenes.{names_of}
use Rattle.px_commands.specs.Plans.{signed}
use Rattle.px_commands.proofs.plan.push_signed.Given as goal

abbrev pub invariant-loop-index : goal.invariant-loop-index
invariant-loop-index l =
    l.text.items ≡ l.fn.text.items ++ signed l.sign (names_of l.solids) (take l.index-index l.indices)
