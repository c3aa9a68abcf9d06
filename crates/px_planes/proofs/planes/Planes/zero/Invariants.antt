use Rattle.px_num.proofs.Basics.{◌≡◌, replicate}
use Rattle.px_planes.proofs.planes.Planes.zero.Given as goal

abbrev pub invariant-loop : goal.invariant-loop
invariant-loop l = record { filled : l.memory.items ≡ replicate l.counter (replicate l.words 0) }
