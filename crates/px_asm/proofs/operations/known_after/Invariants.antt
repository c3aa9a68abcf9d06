use Rattle.px_num.proofs.Basics.{◌≡◌, drop}
use Rattle.px_asm.proofs.Words.{all_renewed, known_of}
use Rattle.px_asm.proofs.operations.known_after.Given as goal

abbrev pub invariant-loop-m : goal.invariant-loop-m
invariant-loop-m l =
    all_renewed (drop l.m-index l.operations) (known_of l.known) ≡ all_renewed l.operations (known_of l.fn.before)
