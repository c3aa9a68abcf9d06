use Rattle.px_num.proofs.Basics.{◌≡◌}
use Rattle.px_text.specs.LentWords.{now_of}
use Rattle.px_shadow.specs.Saying.{said_of}
use Rattle.px_shadow.proofs.light.light_of.Given as goal

abbrev pub invariant-loop-word : goal.invariant-loop-word
invariant-loop-word l = l.said ≡ said_of l.scene.solids (now_of l.yielded)
