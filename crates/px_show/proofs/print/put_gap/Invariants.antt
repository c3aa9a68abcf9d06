use Rattle.px_num.proofs.Basics.{◌≡◌, ◌++◌, reverse, replicate}
use Rattle.px_show.proofs.print.put_gap.Given as goal

abbrev pub invariant-loop : goal.invariant-loop
invariant-loop l = reverse l.back.items ≡ replicate l.counter 40 ++ reverse l.initial.back.items
