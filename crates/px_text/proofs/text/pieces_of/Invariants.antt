use Rattle.px_num.proofs.Basics.{◌≡◌}
use Rattle.px_text.proofs.text.pieces_of.Given as goal

abbrev pub invariant-loop-piece : goal.invariant-loop-piece
invariant-loop-piece l = l.pieces.items ≡ l.yielded
