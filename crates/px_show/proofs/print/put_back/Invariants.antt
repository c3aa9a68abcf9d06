use Rattle.px_num.proofs.Basics.{◌≡◌, ◌++◌, length, reverse}
use Rattle.px_show.proofs.print.put_back.Given as goal

abbrev pub invariant-loop-byte : goal.invariant-loop-byte
invariant-loop-byte l = l.rest ++ reverse l.back.items ≡ l.bytes ++ reverse l.initial.back.items

abbrev pub decreases-loop-byte : goal.decreases-loop-byte
decreases-loop-byte l = length l.rest
