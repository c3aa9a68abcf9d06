-- What steps and their operations are worth together, by the kinds of the steps. Only proofs and private
-- functions stand on it.
use Rattle.std.specs.Prelude.{ℕ, ◌+◌, ◌-◌, ◌*◌, ◌==◌, true, false, List, [], ◌∷◌, ◌++◌, length, if◌then◌else◌}
use Rattle.std.specs.List.{sum_by}
use Rattle.px_face.specs.Edges.{edge_count}
use Rattle.px_face.specs.Faces.{face_count, level}
use Rattle.px_macro.specs.declared.operation.Macro.{Macro}
use Rattle.px_macro.specs.declared.operation.Macro.TheVariants as m
use Rattle.px_model.specs.Cells.{Depths}
use Rattle.px_model.specs.Scenes.{SceneView}
use Rattle.px_normal.specs.declared.product.Product.{Product}
use Rattle.px_sched.specs.declared.literal.Literal.{Literal}
use Rattle.px_sched.specs.declared.step.Step.{Step}
use Rattle.px_sched.specs.declared.step.Step.TheVariants.{Begin, Candidate, Clear, Close, Confirm, Drop, Front}
use Rattle.px_sched.specs.declared.step.Step.TheVariants.{Merge, Open, Start, Turn}
use Rattle.px_sched.specs.Layouts.{LayoutView, deep_part, fraction_part, number_part}
use Rattle.px_sched.specs.Passes.{candidate_faces, literals, solid_of, where_fraction}

-- the step of its kind for the first face of its solid, as for the first other literal
abbrev pub first_face_step : Step → Step
first_face_step (Candidate solid face) = Candidate solid 0
first_face_step (Drop solid face) = Drop solid 0
first_face_step (Front solid face) = Front solid 0
first_face_step (Begin other) = Begin 0
first_face_step (Turn other solid face) = Turn 0 solid 0
first_face_step (Close other plain) = Close 0 true
first_face_step step = step

-- the edges of the face of a step that has one
abbrev pub edges_in : SceneView → Step → ℕ
edges_in scene (Candidate solid face) = edge_count (solid_of scene solid)
edges_in scene (Drop solid face) = edge_count (solid_of scene solid)
edges_in scene (Front solid face) = edge_count (solid_of scene solid)
edges_in scene (Turn other solid face) = edge_count (solid_of scene solid)
edges_in scene step = 0

-- an operation where a form is not above a live candidate
abbrev pub passing : LayoutView → Macro → List Macro
passing l operation = m.All ∷ m.KeepBit l.alive true ∷ m.KeepAtMost (level 0) (deep_part l l.key_t) ∷ operation ∷ []

-- the operations of a step but for those of its edges, all with one form and one number
abbrev pub bare : LayoutView → Depths → Step → List Macro
bare l d Start = m.All ∷ m.LoadConst l.key_b 0 ∷ []
bare l d Open = m.All ∷ m.SetBit l.alive false ∷ []
bare l d (Candidate solid face) =
    m.All ∷ m.LoadLinear (level 0) (deep_part l l.key_t)
    ∷ where_fraction d (m.LoadConst (fraction_part l l.key_t) 0 ∷ [])
    ++ m.LoadConst (number_part l l.key_t) 0 ∷ m.SetBit l.alive true ∷ []
bare l d (Drop solid face) = passing l (m.SetBit l.alive false)
bare l d Clear = m.All ∷ m.SetBit l.par false ∷ []
bare l d (Front solid face) = passing l (m.Toggle l.par)
bare l d Confirm = m.All ∷ m.KeepBit l.par false ∷ m.SetBit l.alive false ∷ []
bare l d (Begin other) = m.All ∷ m.SetBit l.par false ∷ []
bare l d (Turn other solid face) = passing l (m.Toggle l.par)
bare l d (Close other plain) = m.All ∷ m.KeepBit l.par false ∷ m.SetBit l.alive false ∷ []
bare l d Merge = m.All ∷ m.KeepBit l.alive true ∷ m.KeepLess l.key_t l.key_b ∷ m.Copy l.key_t l.key_b ∷ []

-- what confirms the candidates of a literal, where each step is worth what the first of its kind is
abbrev pub confirm_worth : (Step → ℕ) → SceneView → Literal → ℕ
confirm_worth v scene q =
    let s = solid_of scene q.solid in
    if scene.fraction_bits == 0 then 0 else
    if q.plain then (length s.backs + 1) * v (Drop q.solid 0)
    else v Clear + v Confirm + (length s.fronts + 1) * v (Front q.solid 0)

-- the steps of a literal but for those of others
abbrev pub own_worth : (Step → ℕ) → SceneView → Literal → ℕ
own_worth v scene q =
    v Open + v Merge + length (candidate_faces (solid_of scene q.solid) q.plain) * v (Candidate q.solid 0)
    + confirm_worth v scene q

-- the steps in which a literal judges a candidate of another one
abbrev pub judged_worth : (Step → ℕ) → SceneView → Literal → ℕ
judged_worth v scene r =
    v (Begin 0) + v (Close 0 true) + face_count (solid_of scene r.solid) * v (Turn 0 r.solid 0)

-- what a literal adds to its product: its own steps, and those against it of each of the others
abbrev pub share_worth : (Step → ℕ) → SceneView → (others : ℕ) → Literal → ℕ
share_worth v scene others q = own_worth v scene q + others * judged_worth v scene q

-- some literals, each of which is compared with each of the others
abbrev pub shares_worth : (Step → ℕ) → SceneView → List Literal → ℕ
shares_worth v scene qs = sum_by (share_worth v scene (length qs - 1)) qs

-- the background, and then each product
abbrev pub products_worth : (Step → ℕ) → SceneView → List Product → ℕ
products_worth v scene products = v Start + sum_by (λ product. shares_worth v scene (literals product)) products
