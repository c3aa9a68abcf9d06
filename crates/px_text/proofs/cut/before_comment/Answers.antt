use Rattle.px_num.proofs.Basics.{◌≡◌, ◌==◌, ◌<◌, ◌≤◌, ℕ, List, length, take, get_or, true, false, arith, refl, eq-eqb}
use Rattle.px_num.proofs.Basics.{sym, ◌∙◌, take_all, before_first}
use Rattle.std.proofs.lemmas.List.Sums.{position_or_len_is}
use Rattle.px_text.proofs.cut.before_comment.Goals as goal

front_is : (xs : List ℕ) (i : ℕ) → i ≤ length xs → ((k : ℕ) → k < i → (get_or xs k 0 == 35) ≡ false)
    → (i < length xs → (get_or xs i 0 == 35) ≡ true) → take i xs ≡ before_first (λ b. b == 35) xs
front_is xs i le none here = rw (position_or_len_is (λ b. b == 35) xs i 0 le none here) refl

pub returns-then-b-eq35 : goal.returns-then-b-eq35
returns-then-b-eq35 c = front_is _ _ (grind arith) c.loop-i.invariant (λ _. eq-eqb _ _ c.if-b-eq35.true)

pub returns : goal.returns
returns c =
    let all : length c.args.line.now ≤ c.loop-i.i = omega arith
    in sym (take_all c.loop-i.i c.args.line.now all) ∙ front_is c.args.line.now c.loop-i.i (omega arith)
    c.loop-i.invariant (λ lt. absurd (omega arith))
