-- The last solid of a draft, changed in place.
use Rattle.px_num.proofs.Basics.{zero, suc, ◌≡◌, ℕ, ◌+◌, List, [], ◌∷◌, length, get_or, slice_set, ap, arith}
use Rattle.px_scene.proofs.Words.{SolidView, with_last}

pub last_set : (change : SolidView → SolidView) (ss : List SolidView) (n : ℕ) (d s : SolidView) → n + 1 ≡ length ss
    → s ≡ change (get_or ss n d) → slice_set ss n s ≡ with_last change ss
last_set change [] n d s e is = absurd (omega arith)
last_set change (q ∷ []) zero d s e is = ap (λ x. x ∷ []) is
last_set change (q ∷ []) (suc n) d s e is = absurd (omega arith)
last_set change (q ∷ r ∷ ss) zero d s e is = absurd (omega arith)
last_set change (q ∷ r ∷ ss) (suc n) d s e is = ap (λ x. q ∷ x) (last_set change (r ∷ ss) n d s (omega arith) is)
