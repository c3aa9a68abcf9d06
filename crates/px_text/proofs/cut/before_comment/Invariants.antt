use Rattle.px_num.proofs.Basics.{◌≡◌, ◌==◌, ℕ, ◌<◌, get_or, false}
use Rattle.px_text.proofs.cut.before_comment.Given as goal

abbrev pub invariant-loop-i : goal.invariant-loop-i
invariant-loop-i l = (k : ℕ) → k < l.i → (get_or l.line k 0 == 35) ≡ false
