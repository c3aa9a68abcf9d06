-- What the literals of a product are worth: each is compared with each of the others, so each judges for all
-- but itself.
use Rattle.px_num.proofs.Basics.{nat_tests, common_steps, ◌≡◌, ◌≢◌, ℕ, suc, zero, ◌+◌, ◌-◌, ◌*◌, ◌<◌, ◌≤◌, ◌==◌, Bool}
use Rattle.px_num.proofs.Basics.{true, false, not, cond, List, [], ◌∷◌, length, add-one, drop, get_or, refl, ap, sym}
use Rattle.px_num.proofs.Basics.{◌∙◌, arith, inl, inr, All, filter, sum_by, cases_eq, cases_lt, drop_all, fold-map}
use Rattle.px_num.proofs.Basics.{sum_by-append, sum_by-cons}
use Rattle.px_control.proofs.Words.{first_face_step, flat_sum, HasSolidsBelow, is_void, itself_true, judged_worth}
use Rattle.px_control.proofs.Words.{Literal, literal, literal_steps, literal_sum, literals, literals_of, no_solid}
use Rattle.px_control.proofs.Words.{other_false, others, own_worth, Product, product_steps, products_worth, SceneView}
use Rattle.px_control.proofs.Words.{shares_worth, SolidView, Step, steps_sum, steps_with, sum_by-agree}
use Rattle.std.proofs.lemmas.List.Filters.{sum_by-filter_both}
use Rattle.std.proofs.lemmas.List.Sums.{sum_by-drop_more, sum_by_push}
use Rattle.px_normal.specs.declared.set.SolidSet.{SolidSet}
use Rattle.px_normal.specs.Sets.{below, has, solids}
use Rattle.px_sched.proofs.MemberLaws.{In, any_in}
use Rattle.px_sched.proofs.ProductLaws.{each_literal, in_solids, in_solids_of}

-- sums
filter_sum : {A : Type 0} (test : A → Bool) (f : A → ℕ) (xs : List A) →
    sum_by f (filter test xs) ≡ sum_by (λ x. cond (test x) (f x) 0) xs
filter_sum test f [] = refl
filter_sum {A = A} test f (x ∷ xs) = grind (arith, nat_tests, common_steps, cond, sum_by-cons, filter_sum test f xs)

sum_plus : {A : Type 0} (f g : A → ℕ) (xs : List A) → sum_by f xs + sum_by g xs ≡ sum_by (λ x. f x + g x) xs
sum_plus f g [] = refl
sum_plus f g (x ∷ xs) =
    omega (arith, sum_by-cons (λ y. f y + g y) x xs, sum_by-cons f x xs, sum_by-cons g x xs, sum_plus f g xs)

-- of the numbers below another at most one has something
nothing_below : (h : ℕ → ℕ) (n : ℕ) → ((i : ℕ) → i < n → h i ≡ 0) → sum_by h (below n) ≡ 0
nothing_below h zero none = refl
nothing_below h (suc n) none =
    omega (arith, sum_by_push h (below n) n, nothing_below h n (λ i low. none i (omega arith)), none n (omega arith))

one_below : (h : ℕ → ℕ) (q n : ℕ) → q < n → ((i : ℕ) → i < n → i ≢ q → h i ≡ 0) → sum_by h (below n) ≡ h q
one_below h q zero low other = absurd (omega arith)
one_below h q (suc n) low other = elim (cases_eq n q) [
  | inl e ↦
      grind (arith, nothing_below, sum_by_push)
  | inr ne ↦
      let before = one_below h q n (omega arith) (λ i less. other i (omega arith)) in
      omega (arith, sum_by_push h (below n) n, before, other n (omega arith) ne)
]

numbers : (set : SolidSet) (n : ℕ) → n ≡ 256 → solids set ≡ filter (has set) (below n)
unfolding solids
numbers set n all = ap (λ k. filter (has set) (below k)) (sym all)

-- the literals of a product, by their solids
module _ (f : Literal → ℕ) (p : Product) where
  abbrev held : ℕ → ℕ
  held q = cond (has p.plain q) (f (literal true q)) 0 + cond (has p.barred q) (f (literal false q)) 0

  by_solids : (n : ℕ) → n ≡ 256 → sum_by f (literals p) ≡ sum_by held (below n)
  by_solids n all =
      omega (
        arith,
        sum_by-append f (literals_of true (solids p.plain)) (literals_of false (solids p.barred)),
        part true p.plain,
        part false p.barred,
        sum_plus (λ q. cond (has p.plain q) (f (literal true q)) 0) (λ q. cond (has p.barred q) (f (literal false q)) 0)
            (below n),
      )
    where
      part : (plain : Bool) (set : SolidSet)
          → sum_by f (literals_of plain (solids set)) ≡ sum_by (λ q. cond (has set q) (f (literal plain q)) 0) (below n)
      part plain set =
          fold-map (λ a r. a + f r) (literal plain) 0 (solids set)
          ∙ ap (sum_by (λ q. f (literal plain q))) (numbers set n all)
          ∙ filter_sum (has set) (λ q. f (literal plain q)) (below n)

  module _ (apart : is_void p ≡ false) where
    never_both : (q : ℕ) → q < 256 → has p.plain q ≡ true → has p.barred q ≡ true → ⊥
    never_both q low plain barred = grind (arith, any_in, in_solids_of)

    -- what holds of nothing, of what is plain and of what is barred
    held_each : (q : ℕ) → q < 256 → (P : ℕ → Type 0) → (has p.plain q ≡ false → has p.barred q ≡ false → P 0)
        → (has p.plain q ≡ true → P (f (literal true q))) → (has p.barred q ≡ true → P (f (literal false q)))
        → P (held q)
    held_each q low P none plain barred = grind (arith, cond, never_both)

    plain_alone : (q : ℕ) → q < 256 → has p.plain q ≡ true → held q ≡ f (literal true q)
    plain_alone q low is = grind (arith, held_each, never_both)

    barred_alone : (q : ℕ) → q < 256 → has p.barred q ≡ true → held q ≡ f (literal false q)
    barred_alone q low is = grind (arith, held_each, never_both)

-- what there is of a solid
abbrev met : (Literal → ℕ) → ℕ → Literal → ℕ
met f q r = cond (r.solid == q) (f r) 0

-- each literal and those of other solids are all
others_sum : (f : Literal → ℕ) (p : Product) (n : ℕ) → n ≡ 256 → is_void p ≡ false → (q : Literal) → In q (literals p)
    → sum_by f (others q p) + f q ≡ sum_by f (literals p)
others_sum f p n all apart =
    each_literal p (λ q. sum_by f (others q p) + f q ≡ sum_by f (literals p))
    (λ q h. let i = in_solids p.plain q h in
    one (literal true q) i.0 (plain_alone (met f q) p apart q i.0 i.1 ∙ here q (f (literal true q))))
    (λ q h. let i = in_solids p.barred q h in
    one (literal false q) i.0 (barred_alone (met f q) p apart q i.0 i.1 ∙ here q (f (literal false q))))
  where
    here : (q m : ℕ) → cond (q == q) m 0 ≡ m
    here q m = rw (itself_true q) refl

    one : (q : Literal) → q.solid < 256 → held (met f q.solid) p q.solid ≡ f q
        → sum_by f (others q p) + f q ≡ sum_by f (literals p)
    one q low alone =
        let same : Literal → Bool = λ r. r.solid == q.solid in
        omega (
          arith,
          sum_by-filter_both same (λ r. not (r.solid == q.solid)) (λ r. refl) f (literals p),
          filter_sum same f (literals p),
          by_solids (met f q.solid) p n all,
          one_below (held (met f q.solid) p) q.solid n (omega arith) (λ i in_range other. held_each (met f q.solid) p
              apart i (omega arith) (λ k. k ≡ 0) (λ _ _. refl) (λ _. rw (other_false i q.solid other) refl)
              (λ _. rw (other_false i q.solid other) refl)),
          alone,
        )

-- where each one and what it is compared with are all of them
spread : {A : Type 0} (own others f : A → ℕ) (n all : ℕ) (xs : List A) → ((x : A) → In x xs → others x + f x ≡ all)
    → sum_by (λ x. own x + others x) xs + (sum_by f xs + n * sum_by f xs)
    ≡ sum_by (λ x. own x + n * f x) xs + length xs * all
spread own others f n all [] each = omega arith
spread own others f n all (x ∷ xs) each =
    rw (sum_by-cons f x xs) (omega (
      arith,
      sum_by-cons (λ y. own y + others y) x xs,
      sum_by-cons (λ y. own y + n * f y) x xs,
      each x (inl refl),
      spread own others f n all xs (λ y h. each y (inr h)),
    ))

all_shares : {A : Type 0} (own others f : A → ℕ) (xs : List A) → ((x : A) → In x xs → others x + f x ≡ sum_by f xs)
    → sum_by (λ x. own x + others x) xs ≡ sum_by (λ x. own x + (length xs - 1) * f x) xs
all_shares own others f [] each = refl
all_shares own others f (x ∷ xs) each =
    let n = length xs in
    let all = sum_by f (x ∷ xs) in
    let less : n ≡ suc n - 1 = omega arith in
    let whole : sum_by (λ y. own y + others y) (x ∷ xs) + (all + n * all)
    ≡ sum_by (λ y. own y + n * f y) (x ∷ xs) + suc n * all = spread own others f n all (x ∷ xs) each in
    let same : sum_by (λ y. own y + others y) (x ∷ xs) ≡ sum_by (λ y. own y + n * f y) (x ∷ xs) =
    omega (arith, whole) in
    same ∙ ap (λ k. sum_by (λ y. own y + k * f y) (x ∷ xs)) less

-- the steps of a product, and of products, where each is worth what the first of its kind is
module _ (v : Step → ℕ) (scene : SceneView) where
  pub product_sum : (p : Product) → is_void p ≡ false
      → sum_by (λ step. v (first_face_step step)) (product_steps scene p) ≡ shares_worth v scene (literals p)
  product_sum p apart =
      let worth : Step → ℕ = λ step. v (first_face_step step) in
      let steps : Literal → List Step = λ q. literal_steps scene q (others q p) in
      let judged = judged_worth v scene in
      let against : Literal → ℕ = λ q. sum_by judged (others q p) in
      flat_sum worth steps (literals p)
      ∙ sum_by-agree (λ q. sum_by worth (steps q)) (λ q. own_worth v scene q + against q) (literals p)
      (λ k d low. let q = get_or (literals p) k d in literal_sum v scene q (others q p))
      ∙ all_shares (own_worth v scene) against judged (literals p) (others_sum judged p 256 refl apart)

  pub products_sum : (ps : List Product) → All (λ p. is_void p ≡ false) ps
      → sum_by (λ step. v (first_face_step step)) (steps_with scene ps) ≡ products_worth v scene ps
  products_sum ps apart =
      let worth : Step → ℕ = λ step. v (first_face_step step) in
      omega (
        arith,
        steps_sum scene worth ps,
        sum_by-agree (λ p. sum_by worth (product_steps scene p)) (λ p. shares_worth v scene (literals p)) ps
            (λ k d low. product_sum (get_or ps k d) (apart k d low)),
      )

-- the literals of a product are at most what all solids are
module _ (w : SolidView → ℕ) (ss : List SolidView) where
  solids_above : (h : ℕ → ℕ) (n : ℕ) → ((q : ℕ) → q < n → q < length ss → h q ≤ w (get_or ss q no_solid))
      → ((q : ℕ) → q < n → length ss ≤ q → h q ≡ 0) → sum_by h (below n) + sum_by w (drop n ss) ≤ sum_by w ss
  solids_above h zero each none = omega arith
  solids_above h (suc n) each none =
      let before = solids_above h n (λ q low. each q (omega arith)) (λ q low. none q (omega arith)) in
      grind (arith, cases_lt, add-one, sum_by_push, sum_by-drop_more, drop_all)

  pub literals_few : (f : Literal → ℕ) (p : Product) → HasSolidsBelow (length ss) p → is_void p ≡ false
      → ((q : Literal) → q.solid < length ss → f q ≤ w (get_or ss q.solid no_solid))
      → sum_by f (literals p) ≤ sum_by w ss
  literals_few f p known apart few = in_all 256 refl where
    in_all : (n : ℕ) → n ≡ 256 → sum_by f (literals p) ≤ sum_by w ss
    in_all n all =
        omega (
          arith,
          by_solids f p n all,
          solids_above (held f p) n
              (λ q low there. held_each f p apart q (omega arith) (λ k. k ≤ w (get_or ss q no_solid))
              (λ _ _. omega arith)
              (λ is. few (literal true q) there) (λ is. few (literal false q) there))
              (λ q low past. held_each f p apart q (omega arith) (λ k. k ≡ 0) (λ _ _. refl)
              (λ is. absurd (omega (arith, known.0 q (omega arith) is)))
              (λ is. absurd (omega (arith, known.1 q (omega arith) is)))),
        )
