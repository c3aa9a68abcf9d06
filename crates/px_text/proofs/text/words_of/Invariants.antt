use Rattle.px_num.proofs.Basics.{◌≡◌}
use Rattle.px_text.proofs.text.words_of.Given as goal

abbrev pub invariant-loop-word : goal.invariant-loop-word
invariant-loop-word l = l.words.items ≡ l.yielded
