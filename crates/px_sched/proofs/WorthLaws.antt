-- Sums over the operations of a step and over the steps of a literal, by the cases of a step.
use Rattle.px_num.proofs.Basics.{nat_tests, common_steps, ◌≡◌, ℕ, ◌+◌, ◌-◌, ◌*◌, ◌^◌, All, Bool, true, false, List, ◌∷◌}
use Rattle.px_num.proofs.Basics.{[], ◌++◌, length, map, refl, ap, sym, ◌∙◌, arith, flat_map, range_with_len, sum_by}
use Rattle.px_num.proofs.Basics.{All-head, All-tail, fold-map, length-range_with_len, sum_by-append, sum_by-cons}
use Rattle.px_sched.proofs.Words.{bare, Candidate, candidate_faces, confirm, deep_part, depths_of, Drop, edge_count}
use Rattle.px_sched.proofs.Words.{edges_in, edges_count, end_of, face_number, face_plane, Field, first_face_step}
use Rattle.px_sched.proofs.Words.{fraction_part, Front, HasFace, IsThere, judge, judged_worth, keep_covered, LayoutView}
use Rattle.px_sched.proofs.Words.{level, Linear, Literal, literal_at, literal_steps, Macro, Merge, no_literal}
use Rattle.px_sched.proofs.Words.{number_part, Open, operations, own_worth, passing, plus, Product, product_steps}
use Rattle.px_sched.proofs.Words.{SceneView, solid_of, Step, steps_with, where_fraction, where_passed}
use Rattle.px_sched.specs.declared.step.Step.TheVariants.{Start}
use Rattle.px_sched.proofs.MemberLaws.{by_places}
use Rattle.px_macro.specs.declared.operation.Macro.TheVariants as m

pub sum_by-agree : {A : Type 0} (f g : A → ℕ) (xs : List A) → All (λ x. f x ≡ g x) xs → sum_by f xs ≡ sum_by g xs
sum_by-agree f g [] same = refl
sum_by-agree f g (x ∷ xs) same =
    omega (
      arith,
      sum_by-cons f x xs,
      sum_by-cons g x xs,
      All-head (λ x. f x ≡ g x) x xs same,
      sum_by-agree f g xs (All-tail (λ x. f x ≡ g x) x xs same),
    )

pub flat_sum : {A B : Type 0} (w : B → ℕ) (f : A → List B) (xs : List A) →
    sum_by w (flat_map f xs) ≡ sum_by (λ x. sum_by w (f x)) xs
flat_sum w f [] = refl
flat_sum w f (x ∷ xs) = grind (arith, nat_tests, common_steps, sum_by-append, sum_by-cons, flat_sum w f xs)

pub counted : {A : Type 0} (xs : List A) → length xs ≡ sum_by (λ x. 1) xs
counted [] = refl
counted {A = A} (x ∷ xs) = let one_each : A → ℕ = λ y. 1 in omega (arith, sum_by-cons one_each x xs, counted xs)

-- the steps of a literal, where each is worth what the first of its kind is
module _ (v : Step → ℕ) (scene : SceneView) where
  abbrev u : Step → ℕ
  u step = v (first_face_step step)

  alike : (step : ℕ → Step) → ((face : ℕ) → first_face_step (step face) ≡ first_face_step (step 0)) → (faces : List ℕ)
      → sum_by u (map step faces) ≡ length faces * u (step 0)
  alike step same [] = omega arith
  alike step same (face ∷ faces) = grind (arith, sum_by-cons u (step face) (map step faces), alike step same faces)

  in_range : (step : ℕ → Step) → ((face : ℕ) → first_face_step (step face) ≡ first_face_step (step 0))
      → (from count : ℕ) → sum_by u (map step (range_with_len from count)) ≡ count * u (step 0)
  in_range step same from count = rw (length-range_with_len from count) at (alike step same (range_with_len from count))

  -- each literal has its own steps, and those of the others against it
  pub literal_sum : (q : Literal) (rs : List Literal) →
      sum_by u (literal_steps scene q rs) ≡ own_worth v scene q + sum_by (judged_worth v scene) rs
  literal_sum q rs =
      let judged = judged_worth v scene in
      let faces = candidate_faces (solid_of scene q.solid) q.plain in
      let sure = where_fraction (depths_of scene) (confirm scene q) in
      let places = range_with_len 0 (length rs) in
      let tests = flat_map (judge scene rs) places in
      let tested : sum_by u tests ≡ sum_by judged rs =
      flat_sum u (judge scene rs) places
      ∙ sum_by-agree (λ other. sum_by u (judge scene rs other)) (λ other. judged (literal_at rs other)) places
      (λ k d low. grind (arith, nat_tests, common_steps, sum_by-append, sum_by-cons, in_range))
      ∙ sym (fold-map (λ a r. a + judged r) (literal_at rs) 0 places) ∙ ap (sum_by judged) (by_places no_literal rs) in
      grind (
        arith,
        sum_by-cons u Open (map (Candidate q.solid) faces ++ (sure ++ (tests ++ Merge ∷ []))),
        sum_by-append u (map (Candidate q.solid) faces) (sure ++ (tests ++ Merge ∷ [])),
        sum_by-append u sure (tests ++ Merge ∷ []),
        sum_by-append u tests (Merge ∷ []),
        alike (Candidate q.solid) (λ face. refl) faces,
        tested,
        nat_tests,
        common_steps,
        in_range,
        sum_by-append,
        sum_by-cons,
      )

-- the steps of products are the background's, and then those of each product
pub steps_sum : (scene : SceneView) (v : Step → ℕ) (products : List Product) → sum_by v (steps_with scene products)
    ≡ v Start + sum_by (λ product. sum_by v (product_steps scene product)) products
steps_sum scene v products = grind (arith, sum_by-cons, flat_sum)

-- what does not look at forms, numbers and bits
pub record IsBlind (w : Macro → ℕ) : Type 0 where
  pub sign : (form : Linear) → w (m.KeepSign form) ≡ w (m.KeepSign (level 0))
  pub load : (form : Linear) (field : Field) → w (m.LoadLinear form field) ≡ w (m.LoadLinear (level 0) field)
  pub at_most : (form : Linear) (field : Field) → w (m.KeepAtMost form field) ≡ w (m.KeepAtMost (level 0) field)
  pub constant : (field : Field) (n : ℕ) → w (m.LoadConst field n) ≡ w (m.LoadConst field 0)
  pub keep : (at : ℕ) (bit : Bool) → w (m.KeepBit at bit) ≡ w (m.KeepBit at false)

module _ (scene : SceneView) (l : LayoutView) (w : Macro → ℕ) (blind : IsBlind w) where
  abbrev end : ℕ
  end = end_of (depths_of scene)

  abbrev edge : ℕ
  edge = w (m.KeepSign (level 0))

  signs : (forms : List Linear) → sum_by w (map m.KeepSign forms) ≡ length forms * edge
  signs [] = omega arith
  signs (form ∷ forms) = omega (arith, sum_by-cons w (m.KeepSign form) (map m.KeepSign forms), signs forms)

  -- operations around those of a face's edges
  around : (solid face : ℕ) (head tail : List Macro) → IsThere scene solid face
      → sum_by w (head ++ (keep_covered end (solid_of scene solid) face ++ tail))
      ≡ sum_by w head + sum_by w tail + edge_count (solid_of scene solid) * edge
  around solid face head tail there = grind (arith, edges_count, signs, sum_by-append)

  passed : (solid face : ℕ) (form : Linear) (operation : Macro) → IsThere scene solid face
      → sum_by w (where_passed l end (solid_of scene solid) face form operation)
      ≡ sum_by w (passing l operation) + edge_count (solid_of scene solid) * edge
  passed solid face form operation there =
      grind (
        arith,
        around solid face (m.All ∷ m.KeepBit l.alive true ∷ [])
            (m.KeepAtMost form (deep_part l l.key_t) ∷ operation ∷ []) there,
      )

  -- a step is worth what its bare operations are, and its edges
  pub weighed : (step : Step) → HasFace (IsThere scene) step → sum_by w (operations scene l step)
      ≡ sum_by w (bare l (depths_of scene) step) + edges_in scene step * edge
  weighed Start there = omega (arith, blind.constant l.key_b (end * 2 ^ l.number_bits))
  weighed (Candidate solid face) there =
      let s = solid_of scene solid in
      let form = plus (face_plane s end face) (2 ^ scene.fraction_bits - 1) in
      let load : Linear → Macro = λ form. m.LoadLinear form (deep_part l l.key_t) in
      let clear = where_fraction (depths_of scene) (m.LoadConst (fraction_part l l.key_t) 0 ∷ []) in
      let last : ℕ → List Macro = λ n. m.LoadConst (number_part l l.key_t) n ∷ m.SetBit l.alive true ∷ [] in
      omega (
        arith,
        around solid face (m.All ∷ []) (load form ∷ clear ++ last (face_number s face)) there,
        sum_by-append w (load form ∷ clear) (last (face_number s face)),
        sum_by-cons w (load form) clear,
        sum_by-append w (m.All ∷ load (level 0) ∷ clear) (last 0),
        sum_by-append w (m.All ∷ load (level 0) ∷ []) clear,
        blind.constant (number_part l l.key_t)
            (face_number s face),
      )
  weighed (Drop solid face) there = passed solid face _ _ there
  weighed (Front solid face) there = passed solid face _ _ there
  weighed x there = grind (arith, passed)
