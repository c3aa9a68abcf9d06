-- The first word of a line, and of a text.
use Rattle.px_state.proofs.Cited.{[], ap, arith, Bool, bytes_eq, codes, get_or, length, List, slice_get, Some}
use Rattle.px_state.proofs.Cited.{starts_listing, sym, Words, ℕ, ◌<◌, ◌∷◌, ◌≡◌}

pub first_word : (ws : Words) (w : List ℕ) → 0 < length ws → w ≡ get_or ws 0 w
    → Some (bytes_eq w (codes "pxlist")) ≡ starts_listing ws
first_word [] w some is = absurd (omega (arith, some))
first_word (v ∷ ws) w some is = ap (λ w. Some (bytes_eq w (codes "pxlist"))) is

pub first_of : (bs : List Bool) (b : Bool) → 0 < length bs → b ≡ get_or bs 0 b → slice_get bs 0 ≡ Some b
first_of [] b some is = absurd (omega (arith, some))
first_of (c ∷ bs) b some is = ap (λ b. Some b) (sym is)
