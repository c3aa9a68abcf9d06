-- Listening on.
use Rattle.px_num.proofs.Basics.{arith, ◌≡◌, ℕ, ◌-◌, List, ◌++◌, Option, None, append-nil, take}
use Rattle.px_num.proofs.Basics.{Consumes}
use Rattle.px_io.proofs.ToldLaws.{consumes_both}
use Rattle.px_asked.specs.Asks.{Ask, Notes}
use Rattle.px_asked.proofs.AskLaws.{asked_both, each_both, given-append}
use Rattle.px_asked.specs.Hearings.{HearingBegun, Heard, Waits}
use Rattle.px_asked.specs.Listenings.{ListenedTo, Listens}
use Rattle.px_asked.specs.Parts.{part_end}

-- one ask more
listens_more : (n : ℕ) (a b c : Option (List Ask)) (w : Option (List ℕ)) (xs ys : List ℕ) → Listens n a b w xs
    → part_end (take (n - 1) xs) ≡ None → Notes b c w ys → Listens n a c w (xs ++ ys)
listens_more n a b c w xs ys listens none noted = grind (arith, asked_both, given-append, append-nil, each_both)

pub heard_more : (b : HearingBegun) (asks more : Option (List Ask)) (rest left w : Option (List ℕ)) (xs ys : List ℕ)
    → Waits b asks rest w xs → Notes asks more w ys → Consumes rest left ys → Heard b more left w (xs ++ ys)
heard_more b asks more rest left w xs ys waits noted took = grind (arith, consumes_both, listens_more)

pub listened_to : (b : HearingBegun) (asks : Option (List Ask)) (rest w : Option (List ℕ)) (xs : List ℕ)
    → Heard b asks rest w xs → ListenedTo b.limit b.asks asks w b.rest rest
listened_to b asks rest w xs heard = (xs, heard.taken, heard.listens)

pub listened_more : (b : HearingBegun) (asks more : Option (List Ask)) (rest left w : Option (List ℕ)) (xs ys : List ℕ)
    → Waits b asks rest w xs → Notes asks more w ys → Consumes rest left ys
    → ListenedTo b.limit b.asks more w b.rest left
listened_more b asks more rest left w xs ys waits noted took =
    listened_to b more left w (xs ++ ys) (heard_more b asks more rest left w xs ys waits noted took)
