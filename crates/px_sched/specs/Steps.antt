-- The steps of a literal, from one of them on, and the passes over any products. Clauses of public calls stand on it.
use Rattle.std.specs.Prelude.{◌≡◌, ℕ, ◌+◌, ◌-◌, ◌<◌, ⊤, Bool, List, [], ◌∷◌, ◌++◌, length, map, if◌then◌else◌}
use Rattle.std.specs.List.{flat_map, range_with_len}
use Rattle.px_macro.specs.declared.operation.Macro.{Macro}
use Rattle.px_normal.specs.declared.product.Product.{Product}
use Rattle.px_model.specs.Scenes.{SceneView, SolidView}
use Rattle.px_model.specs.Cells.{depths_of}
use Rattle.px_face.specs.Faces.{face_count}
use Rattle.px_sched.specs.declared.literal.Literal.{Literal}
use Rattle.px_sched.specs.declared.step.Step.{Step}
use Rattle.px_sched.specs.declared.step.Step.TheVariants.{Start, Open, Candidate, Drop, Clear, Front, Confirm}
use Rattle.px_sched.specs.declared.step.Step.TheVariants.{Begin, Turn, Close, Merge}
use Rattle.px_sched.specs.Layouts.{LayoutView}
use Rattle.px_sched.specs.Passes.{confirm, judge, literal_at, operations, solid_of, steps_with, where_fraction}

-- the passes over some products
abbrev pub passes_with : SceneView → LayoutView → List Product → List Macro
passes_with scene l products = flat_map (operations scene l) (steps_with scene products)

-- the candidate faces of a solid stand one after another
abbrev pub first_candidate : SolidView → (plain : Bool) → ℕ
first_candidate s plain = if plain then 0 else length s.fronts + 1

abbrev pub candidates_end : SolidView → (plain : Bool) → ℕ
candidates_end s plain = if plain then length s.fronts + 1 else length s.fronts + 1 + length s.backs

-- a step for each face from one up to an end
abbrev pub from_face : (ℕ → Step) → (face last : ℕ) → List Step
from_face step face last = map step (range_with_len face (last - face))

-- the other literals judge from one of them on, and the candidate is merged
abbrev pub judged_from : SceneView → List Literal → (other : ℕ) → List Step
judged_from scene rs other = flat_map (judge scene rs) (range_with_len other (length rs - other)) ++ Merge ∷ []

-- the candidate is confirmed where there is a fraction, and then judged
abbrev pub confirmed_from : SceneView → Literal → List Literal → List Step
confirmed_from scene q rs = where_fraction (depths_of scene) (confirm scene q) ++ judged_from scene rs 0

abbrev pub drops_from : SceneView → Literal → List Literal → (face : ℕ) → List Step
drops_from scene q rs face =
    from_face (Drop q.solid) face (face_count (solid_of scene q.solid)) ++ judged_from scene rs 0

abbrev pub fronts_from : SceneView → Literal → List Literal → (face : ℕ) → List Step
fronts_from scene q rs face =
    from_face (Front q.solid) face (length (solid_of scene q.solid).fronts + 1) ++ Confirm ∷ judged_from scene rs 0

abbrev pub candidates_from : SceneView → Literal → List Literal → (face : ℕ) → List Step
candidates_from scene q rs face =
    from_face (Candidate q.solid) face (candidates_end (solid_of scene q.solid) q.plain) ++ confirmed_from scene q rs

abbrev pub turns_from : SceneView → List Literal → (other face : ℕ) → List Step
turns_from scene rs other face =
    let r = literal_at rs other in
    from_face (Turn other r.solid) face (face_count (solid_of scene r.solid))
    ++ Close other r.plain ∷ judged_from scene rs (other + 1)

-- what comes after a step of literal q, where rs are the other literals
abbrev pub behind_step : SceneView → (q : Literal) → (rs : List Literal) → Step → List Step
behind_step scene q rs Start = []
behind_step scene q rs Open = candidates_from scene q rs (first_candidate (solid_of scene q.solid) q.plain)
behind_step scene q rs (Candidate solid face) = candidates_from scene q rs (face + 1)
behind_step scene q rs (Drop solid face) = drops_from scene q rs (face + 1)
behind_step scene q rs Clear = fronts_from scene q rs 0
behind_step scene q rs (Front solid face) = fronts_from scene q rs (face + 1)
behind_step scene q rs Confirm = judged_from scene rs 0
behind_step scene q rs (Begin other) = turns_from scene rs other 0
behind_step scene q rs (Turn other solid face) = turns_from scene rs other (face + 1)
behind_step scene q rs (Close other plain) = judged_from scene rs (other + 1)
behind_step scene q rs Merge = []

-- a fact of the solid and the face of a step that has them
abbrev pub HasFace : (ℕ → ℕ → Type 0) → Step → Type 0
HasFace Fact Start = ⊤
HasFace Fact Open = ⊤
HasFace Fact (Candidate solid face) = Fact solid face
HasFace Fact (Drop solid face) = Fact solid face
HasFace Fact Clear = ⊤
HasFace Fact (Front solid face) = Fact solid face
HasFace Fact Confirm = ⊤
HasFace Fact (Begin other) = ⊤
HasFace Fact (Turn other solid face) = Fact solid face
HasFace Fact (Close other plain) = ⊤
HasFace Fact Merge = ⊤

-- the face is one of the solid
abbrev pub IsThere : SceneView → (solid face : ℕ) → Type 0
IsThere scene solid face = face < face_count (solid_of scene solid)

-- a face of a solid of the scene
pub record IsFace (scene : SceneView) (solid face : ℕ) : Type 0 where
  pub known : solid < length scene.solids
  pub there : IsThere scene solid face
  pub few : face < 66

-- the solids and faces of a step are the scene's
abbrev pub IsStep : SceneView → Step → Type 0
IsStep scene step = HasFace (IsFace scene) step

-- the step is one of literal q, where rs are the other literals
abbrev pub IsStepOf : SceneView → (q : Literal) → (rs : List Literal) → Step → Type 0
IsStepOf scene q rs Start = ⊥
IsStepOf scene q rs (Candidate solid face) = (solid ≡ q.solid) × (face < candidates_end (solid_of scene solid) q.plain)
IsStepOf scene q rs (Drop solid face) = solid ≡ q.solid
IsStepOf scene q rs (Front solid face) = solid ≡ q.solid
IsStepOf scene q rs (Begin other) = other < length rs
IsStepOf scene q rs (Turn other solid face) = (other < length rs) × (solid ≡ (literal_at rs other).solid)
IsStepOf scene q rs (Close other plain) = other < length rs
IsStepOf scene q rs other = ⊤
