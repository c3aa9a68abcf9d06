-- What a word more says of a line.
use Rattle.px_num.proofs.Basics.{arith, ◌≡◌, ◌∙◌, ℕ, Bool, true, ◌&&◌, List, [], ◌∷◌, ◌++◌, Option, Some, None, refl}
use Rattle.px_num.proofs.Basics.{ap, filter_map, fold, list_all, filter_map-append, list_all-append, fold-append}
use Rattle.px_shadow.proofs.Words.{and_true, are_some, is_name, is_solid_name, one, said_behind, said_of, set_of}
use Rattle.px_shadow.proofs.Words.{sets_joined, solid_named, SolidSet, SolidView, with_solid, Words}
use Rattle.px_shadow.specs.declared.light.Said.TheVariants as s

some_more : (ws : Words) (w : List ℕ) → are_some (ws ++ w ∷ []) ≡ true
some_more [] w = refl
some_more (v ∷ ws) w = refl

all_more : (test : List ℕ → Bool) (ws : Words) (w : List ℕ) → list_all test (ws ++ w ∷ [])
    ≡ (list_all test ws && test w)
all_more test ws w = list_all-append test ws (w ∷ []) ∙ ap (λ b. list_all test ws && b) (and_true (test w))

added : (set : SolidSet) (place : Option ℕ) → fold (λ a q. sets_joined a (one q)) set (filter_map (λ p. p) (place ∷ []))
    ≡ with_solid set place
added set None = refl
added set (Some q) = refl

set_more : (f : List ℕ → Option ℕ) (ws : Words) (w : List ℕ) → set_of (filter_map f (ws ++ w ∷ []))
    ≡ with_solid (set_of (filter_map f ws)) (f w)
set_more f ws w = grind (arith, filter_map-append, fold-append, added)

behind_more : (ss : List SolidView) (ws : Words) (w : List ℕ) → said_behind ss (ws ++ w ∷ [])
    ≡ s.Light true (list_all is_name ws && is_name w) (list_all (is_solid_name ss) ws && is_solid_name ss w)
    (with_solid (set_of (filter_map (solid_named ss) ws)) (solid_named ss w))
behind_more ss ws w =
    rw (some_more ws w, all_more is_name ws w, all_more (is_solid_name ss) ws w, set_more (solid_named ss) ws w) refl

pub nothing_more : (ss : List SolidView) (ws : Words) (w : List ℕ) → s.Nothing ≡ said_of ss ws → said_of ss (w ∷ [])
    ≡ said_of ss (ws ++ w ∷ [])
nothing_more ss [] w e = refl
nothing_more ss (v ∷ vs) w e = grind arith

pub light_more : (ss : List SolidView) (ws : Words) (w : List ℕ) (a n k : Bool) (set : SolidSet)
    → s.Light a n k set ≡ said_of ss ws → s.Light true (n && is_name w) (k && is_solid_name ss w)
    (with_solid set (solid_named ss w)) ≡ said_of ss (ws ++ w ∷ [])
light_more ss [] w a n k set e = absurd (cc)
light_more ss (v ∷ vs) w a n k set e = grind (arith, behind_more)
