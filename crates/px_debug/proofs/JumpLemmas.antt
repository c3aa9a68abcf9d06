-- From end to end of operations.
use Rattle.px_num.proofs.Basics.{◌≡◌, ℕ, zero, suc, List, [], ◌∷◌, refl, sym}
use Rattle.px_debug.proofs.Words.{after_ends, ends_after, SceneView}

-- at the last clock, after which nothing ends, there is nowhere to go
pub nowhere_to_go : (count now last : ℕ) (ends : List ℕ) → now ≡ last → ends ≡ [] → after_ends count ends now last ≡ now
nowhere_to_go zero now last ends at none = refl
nowhere_to_go (suc count) now last ends at none = rw none (sym at)

-- one end on
pub one_end_on : (scene : SceneView) (more count now end last : ℕ) → more ≡ suc count → ends_after scene now ≡ end
    ∷ ends_after scene end →
    after_ends more (ends_after scene now) now last ≡ after_ends count (ends_after scene end) end last
one_end_on scene more count now end last one is = rw (one, is) refl
