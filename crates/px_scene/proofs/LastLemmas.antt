-- The last solid of a draft, behind others.
use Rattle.px_num.proofs.Basics.{◌≡◌, ℕ, List, [], ◌∷◌, ◌++◌, refl, ap, arith, length-append}
use Rattle.px_scene.proofs.CanonicalWords.{in_last, SolidView, with_last}

pub with_last-append : (change : SolidView → SolidView) (ss : List SolidView) (s : SolidView)
    → with_last change (ss ++ s ∷ []) ≡ ss ++ change s ∷ []
with_last-append change [] s = refl
with_last-append change (q ∷ []) s = refl
with_last-append change (q ∷ r ∷ ss) s = ap (λ x. q ∷ x) (with_last-append change (r ∷ ss) s)

pub in_last-push : (count : SolidView → ℕ) (ss : List SolidView) (s : SolidView)
    → in_last count (ss ++ s ∷ []) ≡ count s
in_last-push count [] s = refl
in_last-push count (q ∷ qs) s = grind (arith, length-append, in_last-push count qs s)
