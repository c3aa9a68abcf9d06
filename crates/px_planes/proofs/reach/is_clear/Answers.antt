use Rattle.px_num.proofs.Basics.{◌≡◌, ◌+◌, ◌*◌, ◌-◌, ◌<◌, ◌∙◌, ℕ, false, List, length, arith, nat_tests, sym}
use Rattle.std.specs.List.{list_any}
use Rattle.std.proofs.lemmas.List.Folds.{list_any_at}
use Rattle.px_planes.proofs.Words.{bit_of_zero, row_bit}
use Rattle.px_planes.specs.Operations.{has_some}
use Rattle.px_planes.proofs.reach.is_clear.Goals as goal

none_set : (row : List ℕ) (p : ℕ) → list_any has_some row ≡ false → p < 64 * length row → row_bit row p ≡ false
none_set row p none within = grind (arith, nat_tests, list_any_at {X = ℕ}, bit_of_zero)

pub returns : goal.returns
returns c clear p first last =
    let q = p - 64 * c.args.from in
    let within : q < 64 * (c.args.to - c.args.from) = omega (arith, first, last) in
    let place : 64 * c.args.from + q ≡ p = omega (arith, first) in
    let none : row_bit c.part.result.now q ≡ false = grind (arith, none_set) in
    rw (place, c.words.ensures) at (sym (c.part.ensures.bits q within) ∙ none)
