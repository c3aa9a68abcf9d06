use Rattle.px_num.proofs.Basics.{◌≡◌, ◌-◌, ◌^◌, min, take, map, number_from_digits}
use Rattle.px_text.proofs.word.magnitude.Given as goal

abbrev pub invariant-loop-b : goal.invariant-loop-b
invariant-loop-b l = l.size ≡ min (number_from_digits 10 (take l.b-index (map (λ b. b - 48) l.digits))) (10 ^ 18)
