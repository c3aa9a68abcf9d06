-- What products that are crossed say, each and any.
use Rattle.px_num.proofs.Basics.{◌≡◌, ◌||◌, ◌&&◌, Bool, List, [], ◌∷◌, refl, arith, map, list_any, All}
use Rattle.px_num.proofs.Basics.{list_any-append, All-nil, All-cons, All-append, All-head, All-tail}
use Rattle.px_normal.proofs.Words.{both, crossed, Product}

all_shown : (hp sp hps sps hq sq : Bool) → (((hp && sp) && hq) || (hp && sq)) || ((sps && hq) || (hps && sq))
    ≡ (((hp && sp) || sps) && hq) || ((hp || hps) && sq)
all_shown hp sp hps sps hq sq = grind arith

-- h holds of both where it holds of each, and s where it holds of one
module _ (h s : Product → Bool) (hb : (p q : Product) → h (both p q) ≡ h p && h q) (sb : (p q : Product)
    → s (both p q) ≡ s p || s q) where
  any_both : (p : Product) (qs : List Product) → list_any h (map (both p) qs) ≡ h p && list_any h qs
  any_both p [] = grind arith
  any_both p (q ∷ qs) = rw (hb p q, any_both p qs) (grind arith)

  pub any_crossed : (ps qs : List Product) → list_any h (crossed ps qs) ≡ list_any h ps && list_any h qs
  any_crossed [] qs = refl
  any_crossed (p ∷ ps) qs = grind (arith, list_any-append, any_both, any_crossed ps qs)

  shown_both : (p : Product) (qs : List Product) → list_any (λ x. h x && s x) (map (both p) qs)
      ≡ ((h p && s p) && list_any h qs) || (h p && list_any (λ x. h x && s x) qs)
  shown_both p [] = grind arith
  shown_both p (q ∷ qs) = grind (arith, shown_both p qs)

  pub shown_crossed : (ps qs : List Product) → list_any (λ x. h x && s x) (crossed ps qs)
      ≡ (list_any (λ x. h x && s x) ps && list_any h qs) || (list_any h ps && list_any (λ x. h x && s x) qs)
  shown_crossed [] qs = refl
  shown_crossed (p ∷ ps) qs = grind (arith, list_any-append, shown_both, all_shown, shown_crossed ps qs)

-- what holds of both from the sides P and Q holds of each product that is crossed
module _ (P Q R : Product → Type 0) (each : (p q : Product) → P p → Q q → R (both p q)) where
  each_both : (p : Product) (qs : List Product) → P p → All Q qs → All R (map (both p) qs)
  each_both p [] first second = All-nil R
  each_both p (q ∷ qs) first second =
      All-cons R (both p q) (map (both p) qs) (each p q first (All-head Q q qs second))
      (each_both p qs first (All-tail Q q qs second))

  pub each_crossed : (ps qs : List Product) → All P ps → All Q qs → All R (crossed ps qs)
  each_crossed [] qs first second = All-nil R
  each_crossed (p ∷ ps) qs first second =
      All-append R (map (both p) qs) (crossed ps qs) (each_both p qs (All-head P p ps first) second)
      (each_crossed ps qs (All-tail P p ps first) second)
