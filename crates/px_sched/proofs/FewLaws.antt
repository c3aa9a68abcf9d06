-- How many passes there can be.
use Rattle.px_num.proofs.Basics.{◌≡◌, ℕ, zero, suc, ◌+◌, ◌^◌, ◌≤◌, All, Bool, true, false, List, ◌∷◌, filter, get_or}
use Rattle.px_num.proofs.Basics.{[], length, refl, ap, arith, length-append, sum_by, length-map, length-flat_map}
use Rattle.px_num.proofs.Basics.{All-weaker, length-range_with_len, count_by-le-length, length-filter, sum_by-le}
use Rattle.px_sched.proofs.Words.{bare, candidate_faces, confirm_worth, depths_of, edge_count, edges_in, HasFace}
use Rattle.px_sched.proofs.Words.{IsLawfulSolid, IsThere, judged_worth, LayoutView, Literal, literal_steps, literals}
use Rattle.px_sched.proofs.Words.{no_solid, operations, others, passes_with, Product, product_steps, SceneView}
use Rattle.px_sched.proofs.Words.{solid_of, SolidSet, SolidView, Step, steps_with}
use Rattle.px_normal.specs.Sets.{below, has, solids}
use Rattle.px_sched.specs.declared.literal.TheConstants.{MAX_LITERALS}
use Rattle.px_sched.proofs.LawfulLaws.{all_or}
use Rattle.px_sched.proofs.OperationLaws.{steps_there}
use Rattle.px_sched.proofs.WorthLaws.{IsBlind, counted, flat_sum, literal_sum, steps_sum, weighed}
use Rattle.px_normal.specs.declared.product.TheConstants.{MAX_PRODUCTS}

pub solid_lawful : (scene : SceneView) → All IsLawfulSolid scene.solids → (i : ℕ) → IsLawfulSolid (solid_of scene i)
solid_lawful scene all i = all_or IsLawfulSolid scene.solids no_solid all (grind arith) i

length_below : (n : ℕ) → length (below n) ≡ n
length_below zero = refl
length_below (suc n) = omega (arith, length-append (below n) (n ∷ []), length_below n)

pub few_filtered : (h : ℕ → Bool) (n : ℕ) → length (filter h (below n)) ≤ n
few_filtered h n = omega (arith, length-filter h (below n), count_by-le-length h (below n), length_below n)

pub few_solids : (set : SolidSet) (n : ℕ) → n ≡ 256 → length (solids set) ≤ n
unfolding solids
few_solids set n e = omega (arith, ap (λ k. length (filter (has set) (below k))) e, few_filtered (has set) n)

few_literals : (p : Product) → length (literals p) ≤ MAX_LITERALS
few_literals p = grind (arith, length-append, length-map, few_solids)

pub few_others : (q : Literal) (p : Product) → length (others q p) ≤ MAX_LITERALS
few_others q p = grind (arith, length-filter, count_by-le-length, few_literals)

pub few_candidates : (s : SolidView) (plain : Bool) → length (candidate_faces s plain) ≤ length s.fronts + 1 + length
    s.backs
few_candidates s true = omega (arith, length-range_with_len 0 (length s.fronts + 1))
few_candidates s false = omega (arith, length-range_with_len (length s.fronts + 1) (length s.backs))

-- each step and each operation counts as one
abbrev pub once : {A : Type 0} → A → ℕ
once x = 1

one_each : IsBlind once
one_each = grind arith

pub few_confirm : (scene : SceneView) (q : Literal) → let s = solid_of scene q.solid in
    confirm_worth once scene q ≤ length s.fronts + length s.backs + 3
few_confirm scene q = grind arith

module _ (scene : SceneView) (l : LayoutView) (lawful : All IsLawfulSolid scene.solids) where
  few_edges_of : (solid : ℕ) → edge_count (solid_of scene solid) ≤ 97
  few_edges_of solid =
      let is = solid_lawful scene lawful solid in omega (arith, is.few_sides, is.fronts.few, is.backs.few)

  pub few_edges : (step : Step) → edges_in scene step ≤ 97
  few_edges x = grind (arith, few_edges_of)

  few_bare : (step : Step) → sum_by once (bare l (depths_of scene) step) ≤ 5
  few_bare x = grind arith

  few_operations : (step : Step) → HasFace (IsThere scene) step → length (operations scene l step) ≤ 102
  few_operations step there = grind (arith, counted, weighed, one_each, few_edges)

  few_literal : (p : Product) (q : Literal) → sum_by once (literal_steps scene q (others q p)) ≤ 2 ^ 16
  few_literal p q =
      let s = solid_of scene q.solid in
      let each : All (λ r. judged_worth once scene r ≤ 68) (others q p) =
      λ k d low. let is = solid_lawful scene lawful (get_or (others q p) k d).solid in
      omega (arith, is.fronts.few, is.backs.few) in
      omega (
        arith,
        literal_sum once scene q (others q p),
        few_candidates s q.plain,
        few_confirm scene q,
        (solid_lawful scene lawful q.solid).fronts.few,
        (solid_lawful scene lawful q.solid).backs.few,
        sum_by-le (judged_worth once scene) 68 (others q p) each,
        few_others q p,
      )

  few_product : (p : Product) → sum_by once (product_steps scene p) ≤ 2 ^ 25
  few_product p =
      let steps : Literal → List Step = λ q. literal_steps scene q (others q p) in
      omega (
        arith,
        flat_sum once steps (literals p),
        sum_by-le (λ q. sum_by once (steps q)) (2 ^ 16) (literals p)
            (λ k d low. few_literal p (get_or (literals p) k d)),
        few_literals p,
      )

  pub few_passes : (products : List Product) → length products ≤ MAX_PRODUCTS → length (passes_with scene l products)
      ≤ 2 ^ 43
  few_passes products few =
      let steps = steps_with scene products in
      let here : Step → ℕ = λ step. length (operations scene l step) in
      omega (
        arith,
        length-flat_map (operations scene l) steps,
        sum_by-le here 102 steps (All-weaker (HasFace (IsThere scene)) (λ step. here step ≤ 102) few_operations steps
            (steps_there scene products)),
        counted steps,
        steps_sum scene once products,
        sum_by-le (λ p. sum_by once (product_steps scene p)) (2 ^ 25) products
            (λ k d low. few_product (get_or products k d)),
      )
