-- What lines say with one more, why the next one is bad, and a text within its limit.
use Rattle.px_num.proofs.Basics.{◌≡◌, ℕ, ◌≤◌, ◌^◌, List, [], ◌∷◌, ◌++◌, length, nat_lt, false, ap, sym, ◌∙◌, arith}
use Rattle.px_num.proofs.Basics.{nat_tests, fold-append}
use Rattle.px_scene.proofs.Words.{blank, draft_of, DraftView, taken, Words}

pub draft_more : (before : List Words) (l : Words) → draft_of (before ++ l ∷ []) ≡ taken (draft_of before) l
draft_more before l = fold-append taken blank before (l ∷ [])

pub says_more : (draft : DraftView) (before : List Words) (l : Words) → draft ≡ draft_of before
    → taken draft l ≡ draft_of (before ++ l ∷ [])
says_more draft before l says = ap (λ (d : DraftView). taken d l) says ∙ sym (draft_more before l)

-- a text within its limit is judged by its lines
pub short : (text : List ℕ) → length text ≤ 2 ^ 20 → nat_lt (2 ^ 20) (length text) ≡ false
short text le = grind (arith, nat_tests)
