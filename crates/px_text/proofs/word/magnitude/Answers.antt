use Rattle.px_num.proofs.Basics.{◌≡◌, ◌-◌, ◌*◌, ◌+◌, ◌<◌, ◌^◌, ℕ, List, min, take, map, length, get_or, arith}
use Rattle.px_num.proofs.Basics.{number_from_digits, get_or-map, length-map}
use Rattle.std.proofs.lemmas.Int.Digits.{number_more}
use Rattle.px_text.proofs.word.magnitude.Goals as goal

more : (ds : List ℕ) (i s r : ℕ) → i < length ds → s ≡ min (number_from_digits 10 (take i (map (λ b. b - 48) ds)))
    (10 ^ 18)
    → r ≡ min (10 * s + (get_or ds i 0 - 48)) (10 ^ 18)
    → r ≡ min (number_from_digits 10 (take (i + 1) (map (λ b. b - 48) ds))) (10 ^ 18)
more ds i s r lt so is = grind (arith, number_more, length-map, get_or-map)

pub loop-b-preserved : goal.loop-b-preserved
loop-b-preserved c = more _ _ _ _ c.loop-b-test.true c.loop-b.invariant (grind arith)
