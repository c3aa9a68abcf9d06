-- What holds of all operations of the passes, by the cases of a step; the face of each step is there.
use Rattle.px_num.proofs.Basics.{rules, ◌≡◌, ℕ, ◌+◌, ◌-◌, ◌*◌, ◌^◌, ◌==◌, ◌≤◌, All, Bool, true, false, List, ◌∷◌, ◌++◌}
use Rattle.px_num.proofs.Basics.{[], length, map, inl, inr, arith, flat_map, range_with_len, cases_Bool, All-append}
use Rattle.px_num.proofs.Basics.{All-cons, All-map, All-push}
use Rattle.px_sched.proofs.Words.{Begin, Candidate, candidate_faces, Clear, Close, confirm, Confirm, deep_part, Depths}
use Rattle.px_sched.proofs.Words.{depths_of, Drop, edges, end_of, face_count, face_number, face_plane, fraction_part}
use Rattle.px_sched.proofs.Words.{Front, HasFace, IsStep, IsThere, judge, keep_covered, LayoutView, Linear, Literal}
use Rattle.px_sched.proofs.Words.{literal_at, literal_steps, literals, Macro, Merge, number_part, Open, operations}
use Rattle.px_sched.proofs.Words.{others, passes_with, plus, Product, product_steps, range_all, SceneView, solid_of}
use Rattle.px_sched.proofs.Words.{Step, steps_with, Turn, where_fraction, where_passed}
use Rattle.std.proofs.lemmas.List.Elements.{All-from_recursion}
use Rattle.px_sched.specs.declared.step.Step.TheVariants.{Start}
use Rattle.px_sched.proofs.LawfulLaws.{all_flat}
use Rattle.px_macro.specs.declared.operation.Macro.TheVariants as m

fraction_all : {X : Type 0} (P : X → Type 0) (d : Depths) (xs : List X) → ((d.fraction_bits == 0) ≡ false → All P xs)
    → All P (where_fraction d xs)
fraction_all P d xs holds = grind arith

-- each step has a face of its solid, if any
module _ (scene : SceneView) where
  abbrev There : Step → Type 0
  There step = HasFace (IsThere scene) step

  faces_there : (step : ℕ → Step) (solid : ℕ) → ((face : ℕ) → IsThere scene solid face → There (step face))
      → (first count : ℕ) → first + count ≤ face_count (solid_of scene solid)
      → All There (map step (range_with_len first count))
  faces_there step solid each first count low =
      All-map There step (range_with_len first count)
      (range_all (λ face. There (step face)) first count (λ face from to. each face (omega (arith, low))))

  candidates_there : (solid : ℕ) (plain : Bool)
      → All There (map (Candidate solid) (candidate_faces (solid_of scene solid) plain))
  candidates_there solid true = grind (arith, faces_there)
  candidates_there solid false = grind (arith, faces_there)

  confirm_there : (q : Literal) → All There (confirm scene q)
  confirm_there q =
      let s = solid_of scene q.solid in
      let n = length s.fronts + 1 in
      let turns = map (Front q.solid) (range_with_len 0 n) in
      elim (cases_Bool q.plain) [
        | inl plain ↦ grind (arith, faces_there)
        | inr barred ↦ rw barred (All-push There (Clear ∷ turns) Confirm (All-cons There Clear turns tt
            (faces_there (Front q.solid) q.solid (λ face there. there) 0 n (omega arith))) tt)
      ]

  judge_there : (rs : List Literal) (other : ℕ) → All There (judge scene rs other)
  judge_there rs other =
      let r = literal_at rs other in
      let n = face_count (solid_of scene r.solid) in
      let turns = map (Turn other r.solid) (range_with_len 0 n) in
      All-push There (Begin other ∷ turns) (Close other r.plain) (All-cons There (Begin other) turns tt
      (faces_there (Turn other r.solid) r.solid (λ face there. there) 0 n (omega arith))) tt

  literal_there : (q : Literal) (rs : List Literal) → All There (literal_steps scene q rs)
  literal_there q rs =
      let found = map (Candidate q.solid) (candidate_faces (solid_of scene q.solid) q.plain) in
      let sure = where_fraction (depths_of scene) (confirm scene q) in
      let places = range_with_len 0 (length rs) in
      let tests = flat_map (judge scene rs) places in
      All-cons There Open (found ++ (sure ++ (tests ++ Merge ∷ []))) tt
      (All-append There found (sure ++ (tests ++ Merge ∷ [])) (candidates_there q.solid q.plain)
      (All-append There sure (tests ++ Merge ∷ [])
      (fraction_all There (depths_of scene) (confirm scene q) (λ some. confirm_there q))
      (All-push There tests Merge
      (all_flat There (λ _. Unit {0}) (judge scene rs) (λ other _. judge_there rs other) places (λ _ _ _. tt)) tt)))

  pub steps_there : (products : List Product) → All There (steps_with scene products)
  steps_there products =
      All-cons There Start (flat_map (product_steps scene) products) tt
      (all_flat There (λ _. Unit {0}) (product_steps scene)
      (λ product _. all_flat There (λ _. Unit {0}) (λ q. literal_steps scene q (others q product))
      (λ q _. literal_there q (others q product)) (literals product) (λ _ _ _. tt))
      products (λ _ _ _. tt))

pub is_there : (scene : SceneView) (step : Step) → IsStep scene step → HasFace (IsThere scene) step
is_there scene x is = grind arith

-- what holds of the operations that the steps of a face have
pub record HoldsOfFaces (scene : SceneView) (l : LayoutView) (P : Macro → Type 0) : Type 0 where
  pub cleared : (scene.fraction_bits == 0) ≡ false → P (m.LoadConst (fraction_part l l.key_t) 0)
  pub number : (solid face : ℕ) → P (m.LoadConst (number_part l l.key_t) (face_number (solid_of scene solid) face))
  pub signs : (solid face : ℕ) → IsThere scene solid face
      → All (λ form. P (m.KeepSign form)) (edges (solid_of scene solid) (end_of (depths_of scene)) face)
  pub load : (solid face : ℕ) → IsThere scene solid face
      → P (m.LoadLinear (plus (face_plane (solid_of scene solid) (end_of (depths_of scene)) face)
      (2 ^ scene.fraction_bits - 1)) (deep_part l l.key_t))
  pub at_most : (solid face : ℕ) → IsThere scene solid face
      → P (m.KeepAtMost (face_plane (solid_of scene solid) (end_of (depths_of scene)) face) (deep_part l l.key_t))
  pub behind : (solid face : ℕ) → IsThere scene solid face
      → P (m.KeepAtMost (plus (face_plane (solid_of scene solid) (end_of (depths_of scene)) face)
      (2 ^ scene.fraction_bits)) (deep_part l l.key_t))

-- what holds of the operations that steps have
pub record HoldsOf (scene : SceneView) (l : LayoutView) (P : Macro → Type 0) : Type 0 where
  pub all : P m.All
  pub best : P (m.LoadConst l.key_b (end_of (depths_of scene) * 2 ^ l.number_bits))
  pub alive : (v : Bool) → P (m.SetBit l.alive v)
  pub par : P (m.SetBit l.par false)
  pub turned : P (m.Toggle l.par)
  pub where_alive : P (m.KeepBit l.alive true)
  pub where_par : (v : Bool) → P (m.KeepBit l.par v)
  pub less : P (m.KeepLess l.key_t l.key_b)
  pub copy : P (m.Copy l.key_t l.key_b)
  pub faces : HoldsOfFaces scene l P

module _ (scene : SceneView) (l : LayoutView) (P : Macro → Type 0) (h : HoldsOf scene l P) where
  abbrev end : ℕ
  end = end_of (depths_of scene)

  covered : (solid face : ℕ) → IsThere scene solid face → All P (keep_covered end (solid_of scene solid) face)
  covered solid face there = All-map P m.KeepSign (edges (solid_of scene solid) end face)
      (h.faces.signs solid face there)

  passed : (solid face : ℕ) (form : Linear) (operation : Macro) → IsThere scene solid face
      → P (m.KeepAtMost form (deep_part l l.key_t)) → P operation
      → All P (where_passed l end (solid_of scene solid) face form operation)
  passed solid face form operation there test done =
      let signs = keep_covered end (solid_of scene solid) face in
      let head : List Macro = m.All ∷ m.KeepBit l.alive true ∷ [] in
      let tail : List Macro = m.KeepAtMost form (deep_part l l.key_t) ∷ operation ∷ [] in
      All-append P head (signs ++ tail) (All-from_recursion P head (h.all, (h.where_alive, tt)))
      (All-append P signs tail (covered solid face there) (All-from_recursion P tail (test, (done, tt))))

  pub each_operation : (step : Step) → HasFace (IsThere scene) step → All P (operations scene l step)
  each_operation Start there = All-from_recursion P (operations scene l Start) (h.all, (h.best, tt))
  each_operation Open there = All-from_recursion P (operations scene l Open) (h.all, (h.alive false, tt))
  each_operation (Candidate solid face) there =
      let s = solid_of scene solid in
      let load = m.LoadLinear (plus (face_plane s end face) (2 ^ scene.fraction_bits - 1)) (deep_part l l.key_t) in
      let zero : List Macro = m.LoadConst (fraction_part l l.key_t) 0 ∷ [] in
      let clear = where_fraction (depths_of scene) zero in
      let last : List Macro = m.LoadConst (number_part l l.key_t) (face_number s face) ∷ m.SetBit l.alive true ∷ [] in
      All-cons P m.All (keep_covered end s face ++ (load ∷ clear ++ last)) h.all
      (All-append P (keep_covered end s face) (load ∷ clear ++ last) (covered solid face there)
      (All-append P (load ∷ clear) last (All-cons P load clear (h.faces.load solid face there)
      (fraction_all P (depths_of scene) zero (λ some. All-from_recursion P zero (h.faces.cleared some, tt))))
      (All-from_recursion P last (h.faces.number solid face, (h.alive true, tt)))))
  each_operation (Drop solid face) there = search (rules, passed, h.faces.at_most, h.alive)
  each_operation Clear there = All-from_recursion P (operations scene l Clear) (h.all, (h.par, tt))
  each_operation (Front solid face) there = passed solid face _ _ there (h.faces.behind solid face there) h.turned
  each_operation Confirm there = grind arith
  each_operation (Begin other) there = All-from_recursion P (operations scene l (Begin other)) (h.all, (h.par, tt))
  each_operation (Turn other solid face) there = passed solid face _ _ there (h.faces.at_most solid face there) h.turned
  each_operation x there = grind (arith, All-from_recursion)

  pub each_pass : (products : List Product) → All P (passes_with scene l products)
  each_pass products =
      all_flat P (HasFace (IsThere scene)) (operations scene l) each_operation (steps_with scene products)
      (steps_there scene products)
