-- What holds of what was read.
use Rattle.px_num.proofs.Basics.{arith, ℕ, ◌≡◌, ◌-◌, ◌≤◌, List, drop, length, take, Option, None, Result, Ok, Err}
use Rattle.px_num.proofs.Basics.{OnErr, ap, sym, ◌∙◌, ◌++◌, min, drop-append-le, take_all, take_min, take-append-drop}
use Rattle.px_num.proofs.Basics.{take-append-le, take-take, Consumes}
use Rattle.std.proofs.lemmas.List.{length-append, length-drop, length-take}
use Rattle.std.proofs.Math.Nat.{min-le_left, min-le_right}
use Rattle.px_io.specs.Reports.{ConsumesAtMost}
use Rattle.px_asked.specs.Asks.{Ask}
use Rattle.px_asked.specs.Hearings.{HearingBegun, Heard, Waits}
use Rattle.px_asked.specs.Parts.{part_end}
use Rattle.px_asked.specs.Searches.{HasSeen}
use Rattle.px_asked.specs.declared.search.Search.{Search}

pub on_err_consumed : {T E : Type 0} (r : Result T E) (a b : Option (List ℕ)) (limit : ℕ) (xs : List ℕ)
    → Consumes a b xs → length xs ≤ limit → OnErr r (ConsumesAtMost a b limit)
on_err_consumed (Ok x) a b limit xs taken few = tt
on_err_consumed (Err e) a b limit xs taken few = (xs, taken, few)

-- what was searched is searched in a longer text
seen_longer : (s : Search) (text more : List ℕ) → HasSeen s text → HasSeen s (text ++ more)
seen_longer s text more seen = grind (arith, take-append-le, drop-append-le, length-drop, length-append)

-- a text grows at its end, and is looked at up to a limit
pub seen_more : (s : Search) (old new : List ℕ) (limit n : ℕ) → HasSeen s (take limit old) → take n new ≡ old
    → HasSeen s (take limit new)
seen_more s old new limit n seen front =
    let j : ℕ = length (take limit old) in
    let under : length (take limit old) ≤ limit = rw (length-take limit old) (min-le_left limit (length old)) in
    let in_old : length (take limit old) ≤ length old = rw (length-take limit old) (min-le_right limit (length old)) in
    let in_front : length (take n new) ≤ n = rw (length-take n new) (min-le_left n (length new)) in
    let below : length (take limit old) ≤ n = omega (arith, in_old, in_front, ap length front) in
    let same : take limit old ≡ take j (take limit new) =
    sym (take_all j (take limit old) (omega arith)) ∙ take-take j limit old under ∙ ap (take j) (sym front)
    ∙ take-take j n new below ∙ sym (take-take j limit new under) in
    rw (sym (take-append-drop j (take limit new)))
    (seen_longer s (take j (take limit new)) (drop j (take limit new)) (rw (sym same) seen))

-- as far as a text goes, and a limit
pub least_front : (xs ys : List ℕ) (m n limit : ℕ) → xs ≡ ys → n ≡ length ys → m ≡ min n limit
    → take m xs ≡ take limit ys
least_front xs ys m n limit same long least =
    ap (take m) same ∙ ap (λ k. take k ys) (omega (arith, least, long)) ∙ take_min limit ys

-- a text that was searched to its end holds no part
pub seen_all : (s : Search) (text : List ℕ) → HasSeen s text → s.at ≡ length text → part_end text ≡ None
seen_all s text seen all = ap part_end (sym (take_all s.at text (omega (arith, all)))) ∙ seen.none

-- so that more may be asked for
pub waits_of : (s : Search) (b : HearingBegun) (asks : Option (List Ask)) (rest w : Option (List ℕ)) (text : List ℕ)
    → Heard b asks rest w text → HasSeen s (take (b.limit - 1) text) → s.at ≡ length (take (b.limit - 1) text)
    → Waits b asks rest w text
waits_of s b asks rest w text heard seen all =
    record { heard = heard; none = seen_all s (take (b.limit - 1) text) seen all }
