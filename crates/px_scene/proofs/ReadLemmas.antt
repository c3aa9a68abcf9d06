-- The draft of lines of which none is bad, one line more.
use Rattle.px_num.proofs.Basics.{◌≡◌, List, [], ◌∷◌, ◌++◌, OnOk, Result, arith}
use Rattle.px_scene.proofs.Words.{DraftView, IsDraftOf, IsLawfulDraft, taken, Words}
use Rattle.px_scene.proofs.DraftLaws.{says_more}

pub read_next : {T E : Type 0} (r : Result T E) (draft new : DraftView) (before : List Words) (l : Words)
    → IsDraftOf draft before → OnOk r (new ≡ taken draft l) → OnOk r (IsLawfulDraft new)
    → OnOk r (IsDraftOf new (before ++ l ∷ []))
read_next x draft new before l so e lawful = grind (arith, says_more)
