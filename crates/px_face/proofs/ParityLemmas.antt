-- The parity law: an odd number of covering faces stands at or before a cell exactly where it is inside.
use Rattle.px_num.proofs.Basics.{nat_tests, common_steps, ◌≡◌, ◌<◌, ◌≤◌, ◌+◌, ℕ, zero, suc, pos, Bool, true, false}
use Rattle.px_num.proofs.Basics.{◌&&◌, not, List, cond, length, eqb, count_by, refl, ap, sym, ◌∙◌, arith, inl, inr}
use Rattle.px_num.proofs.Basics.{range_with_len, ints, cases_eq, sum_by-append}
use Rattle.px_face.proofs.Words.{and_false, and_true, cell_is_first, covering_back, covering_front, Depths, end_of}
use Rattle.px_face.proofs.Words.{enters_at, eqb_holds, eqb_itself, eqb_other, face_count, is_inside_at}
use Rattle.px_face.proofs.Words.{is_met, is_odd, is_passed_at, IsCoveredOnce, IsInsideByParity, le_z, leaves_at}
use Rattle.px_face.proofs.Words.{lt_false, lt_holds, lt_is_not_le, SolidView}
use Rattle.px_num.proofs.RangeLaws.{range_cut}
use Rattle.px_face.proofs.ParityLaws.{count_by-cons}

count_none : (test : ℕ → Bool) (a n : ℕ) → ((i : ℕ) → a ≤ i → i < a + n → test i ≡ false)
    → count_by test (range_with_len a n) ≡ 0
count_none test a zero none = refl
count_none test a (suc n) none =
    count_by-cons test a (range_with_len (a + 1) n)
    ∙ ap (λ b. cond b 1 0 + count_by test (range_with_len (a + 1) n)) (none a (omega arith) (omega arith))
    ∙ omega (arith, count_none test (a + 1) n (λ i low high. none i (omega arith) (omega arith)))

-- where only place k can pass, and passes where b
count_one : (test : ℕ → Bool) (a n k : ℕ) (b : Bool) → ((i : ℕ) → a ≤ i → i < a + n → test i ≡ (b && eqb i k)) → a ≤ k
    → k < a + n → count_by test (range_with_len a n) ≡ cond b 1 0
count_one test a zero k b one low high = absurd (omega arith)
count_one test a (suc n) k b one low high = elim (cases_eq a k) [
  | inl same ↦
      grind (arith, eqb_itself, and_true, count_none, eqb_other, and_false, count_by-cons, cond)
  | inr other ↦
      let rest : count_by test (range_with_len (a + 1) n) ≡ cond b 1 0 =
      count_one test (a + 1) n k b (λ i p q. one i (omega arith) (omega arith)) (omega arith) (omega arith) in
      grind (arith, count_by-cons, cond)
]

-- a test that adds something where the place is the one
where_here : (met here passed known : Bool) → (here ≡ true → passed ≡ known) → ((met && here) && passed)
    ≡ ((met && known) && here)
where_here met here passed known h = grind arith

odd_between : (met entered left : Bool) → (met ≡ true → left ≡ true → entered ≡ true) → (met && entered && not left)
    ≡ is_odd (cond (met && entered) 1 0 + cond (met && left) 1 0)
odd_between met entered left first = grind arith

module _ (s : SolidView) (end x y : ℕ) (law : IsCoveredOnce s end x y) where
  fronts_passed : (z i : ℕ) → i < length s.fronts + 1 → is_passed_at s end x y z i
      ≡ ((is_met s end x y && le_z (enters_at s x y) (pos z)) && eqb i (covering_front s x y))
  fronts_passed z i low = grind (arith, nat_tests)

  pub odd_inside_at : ((v : ℕ) → is_inside_at s end x y v
      ≡ is_odd (count_by (is_passed_at s end x y v) (range_with_len 0 (face_count s))))
  odd_inside_at z =
      let test : ℕ → Bool = is_passed_at s end x y z in
      let met = is_met s end x y in
      let entered = le_z (enters_at s x y) (pos z) in
      let left = le_z (leaves_at s end x y) (pos z) in
      let nf = length s.fronts + 1 in
      let nb = length s.backs + 1 in
      let count : face_count s ≡ nf + nb = omega arith in
      let none : 0 + nf ≡ nf = omega arith in
      let front_low = lt_holds (covering_front s x y) nf law.front.there in
      let fronts : count_by test (range_with_len 0 nf) ≡ cond (met && entered) 1 0 =
      count_one test 0 nf (covering_front s x y) (met && entered) (λ i p q. fronts_passed z i (omega arith))
      (omega arith) (omega arith) in
      let backs : count_by test (range_with_len nf nb) ≡ cond (met && left) 1 0 =
      count_one test nf nb (covering_back s end x y) (met && left)
      (λ i p q. grind (arith, nat_tests, common_steps, lt_false, eqb_holds))
      (omega arith) (omega (arith, law.back.there)) in
      law.values z
      ∙ ap (λ b. met && entered && b) (lt_is_not_le (leaves_at s end x y) (pos z))
      ∙ odd_between met entered left (λ m. grind (arith, ints))
      ∙ sym (rw (
        count,
        range_cut 0 nf nb,
        none,
        sum_by-append (λ i. cond (test i) 1 0) (range_with_len 0 nf)
            (range_with_len nf nb),
        fronts,
        backs,
      ) refl)

count_same : (p q : ℕ → Bool) → ((i : ℕ) → p i ≡ q i) → (is : List ℕ) → count_by p is ≡ count_by q is
count_same p q same x = grind (arith, count_by-cons)

-- the same by the cells of the faces
pub odd_inside : (s : SolidView) (d : Depths) (x y : ℕ) → IsCoveredOnce s (end_of d) x y → IsInsideByParity s d x y
odd_inside s d x y law z = grind (arith, odd_inside_at, count_same, cell_is_first)
