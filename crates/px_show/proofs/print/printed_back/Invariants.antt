use Rattle.px_num.proofs.Basics.{length, reverse}
use Rattle.px_show.proofs.Words.{names_of, nodes_of}
use Rattle.px_show.proofs.GapLemmas.{IsPrintedTo}
use Rattle.px_show.proofs.print.printed_back.Given as goal

abbrev pub invariant-loop-node : goal.invariant-loop-node
invariant-loop-node l =
    IsPrintedTo (names_of l.solids) l.expr (nodes_of l.expr) l.rest (reverse l.gaps.items) (reverse l.back.items)

abbrev pub decreases-loop-node : goal.decreases-loop-node
decreases-loop-node l = length l.rest
