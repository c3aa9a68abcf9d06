use Rattle.px_num.proofs.Basics.{◌≡◌, ◌+◌, drop}
use Rattle.px_show.proofs.Words.{names_of, place_of}
use Rattle.px_show.proofs.stack.place_of.Given as goal

abbrev pub invariant-loop-i : goal.invariant-loop-i
invariant-loop-i l = place_of (names_of l.solids) l.name ≡ l.i + place_of (names_of (drop l.i l.solids)) l.name
