-- The places and the slots of the passed quarters, as the clock goes on.
use Rattle.px_num.proofs.Basics.{◌≡◌, ℕ, ◌+◌, ◌*◌, ◌/◌, ◌<◌, ◌≤◌, List, [], ◌∷◌, length, get_or, set, Option, Some}
use Rattle.px_num.proofs.Basics.{sym, ap, ◌∙◌, inl, inr, below_more, length-set, get_or-set_same, get_or-set_other}
use Rattle.px_num.proofs.Basics.{arith, nat_eq, unwrap_or, div-mul-le_self}
use Rattle.px_debug.proofs.Words.{AreMarked, Device, HasMarks, HasSlots, IsAt, Place, SceneView, StandsFor}
use Rattle.std.specs.Bool.{MatchBool}
use Rattle.std.proofs.Math.Nat.{mul-div_cancel}
use Rattle.std.proofs.lemmas.Bool.Decides.{eqb_tells}
use Rattle.px_array.specs.Slots.{after_save}

pub due : (now q n : ℕ) → 1 ≤ q → n < 4 → now ≤ n * q → MatchBool (nat_eq (now / q) n) ((n < 4) × (now ≡ n * q))
    (n < 4 → now < n * q)
due now q n p few le = elim (eqb_tells (now / q) n) [
  | inl w ↦ grind (arith, div-mul-le_self)
  | inr w ↦ (let ne : now ≡ n * q → ⊥ = λ e. w.1 (rw e (mul-div_cancel n (let z : 0 < q = omega arith in z))) in
      rw w.0 (λ f. let l : now < n * q = omega arith in l))
]

pub marks_more : (s : SceneView) (q n : ℕ) (ps : List Place) (p : Place) → HasMarks s q n ps → n < 4 →
    StandsFor s p → p.clock ≡ n * q → HasMarks s q (n + 1) (set ps n p)
marks_more s q n ps p m few st cl =
    let last : (d : Place) → get_or (set ps n p) n d ≡ p = λ d. get_or-set_same ps n p d (omega (arith, m.long)) in
    let front : (k : ℕ) (d : Place) → k < n → get_or (set ps n p) k d ≡ get_or ps k d =
    λ k d l. get_or-set_other ps n k p d (let ne : k ≡ n → ⊥ = omega arith in ne) in
    record {
      step = m.step;
      some = omega arith;
      few = omega arith;
      long = length-set ps n p ∙ m.long;
      stands = λ k d h. (below_more (λ i. StandsFor s (get_or (set ps n p) i d)) n
          (λ i l. rw (front i d l) (m.stands i d l)) (rw (last d) st)) k h;
      clocks = λ k d h. (below_more (λ i. (get_or (set ps n p) i d).clock ≡ i * q) n
          (λ i l. rw (front i d l) (m.clocks i d l)) (rw (last d) cl)) k h;
    }

pub slots_more : (bits : ℕ) (s : SceneView) (q n : ℕ) (device : Device) (slots : List (Option Device))
    → HasSlots bits s q n slots → n < length slots →
    IsAt bits s (n * q) device → HasSlots bits s q (n + 1) (after_save n device slots)
slots_more bits s q n device slots h few at = grind (arith, below_more, eqb_tells, get_or-set_same, get_or-set_other)

-- fewer of them
pub marks_front : (s : SceneView) (q n count : ℕ) (ps : List Place) → HasMarks s q count ps → 1 ≤ n → n ≤ count
    → HasMarks s q n ps
marks_front s q n count ps m some few = record {
  step = m.step;
  some = some;
  few = omega (arith, m.few);
  long = m.long;
  stands = λ k d h. m.stands k d (omega arith);
  clocks = λ k d h. m.clocks k d (omega arith);
}

-- the quarters that were passed at one of them
pub marked_at : (q k now : ℕ) → 1 ≤ q → now ≡ k * q → AreMarked q (k + 1) now
marked_at q k now step is = grind arith

pub same_device : (o : Option Device) (a b : Device) → o ≡ Some a → o ≡ Some b → a ≡ b
same_device o a b first second = ap (λ x. unwrap_or x a) (sym first ∙ second)

-- four copies of the first place, of which one is in use
pub first_mark : (s : SceneView) (q : ℕ) (p : Place) → 1 ≤ q → StandsFor s p → p.clock ≡ 0
    → HasMarks s q 1 (p ∷ p ∷ p ∷ p ∷ [])
first_mark s q p some stands first = grind arith
