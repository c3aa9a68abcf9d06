-- The passes: the operations that draw a scene, step by step. Clauses of public calls stand on it.
use Rattle.std.specs.Prelude.{ℕ, ◌+◌, ◌-◌, ◌*◌, ◌^◌, ◌==◌, Bool, true, false, not, List, [], ◌∷◌, ◌++◌, length}
use Rattle.std.specs.Prelude.{map, filter, get_or, if◌then◌else◌}
use Rattle.std.specs.List.{flat_map, range_with_len}
use Rattle.px_macro.specs.declared.operation.Macro.{Macro}
use Rattle.px_macro.specs.declared.operation.Macro.TheVariants as m
use Rattle.px_num.specs.Forms.{plus}
use Rattle.px_num.specs.declared.linear.Linear.{Linear}
use Rattle.px_model.specs.Scenes.{SceneView, black, SolidView}
use Rattle.px_model.specs.Cells.{Depths, depths_of, end_of}
use Rattle.px_face.specs.Faces.{face_count, face_number, face_plane}
use Rattle.px_face.specs.Edges.{edges}
use Rattle.px_normal.specs.declared.product.Product.{Product}
use Rattle.px_normal.specs.Sets.{solids}
use Rattle.px_prune.specs.Kept.{plan_of}
use Rattle.px_sched.specs.declared.literal.Literal.{Literal}
use Rattle.px_sched.specs.declared.step.Step.{Step}
use Rattle.px_sched.specs.declared.step.Step.TheVariants.{Start, Open, Candidate, Drop, Clear, Front, Confirm}
use Rattle.px_sched.specs.declared.step.Step.TheVariants.{Begin, Turn, Close, Merge}
use Rattle.px_sched.specs.Layouts.{LayoutView, deep_part, fraction_part, layout_of, number_part}

abbrev pub no_solid : SolidView
no_solid = record { name = []; colour = black; near_number = 0; fronts = []; backs = []; sides = [] }

-- the solid of a scene of this index
abbrev pub solid_of : SceneView → ℕ → SolidView
solid_of scene solid = get_or scene.solids solid no_solid

abbrev pub literal : (plain : Bool) → (solid : ℕ) → Literal
literal plain solid = record { solid = solid; plain = plain }

abbrev pub literals_of : (plain : Bool) → List ℕ → List Literal
literals_of plain solids = map (literal plain) solids

-- the literals of a product: its plain solids in scene order, then its barred ones
abbrev pub literals : Product → List Literal
literals product = literals_of true (solids product.plain) ++ literals_of false (solids product.barred)

-- the literals of a product but for one solid's
abbrev pub others : Literal → Product → List Literal
others q product = filter (λ r. not (r.solid == q.solid)) (literals product)

abbrev pub no_literal : Literal
no_literal = record { solid = 0; plain = false }

abbrev pub literal_at : List Literal → (place : ℕ) → Literal
literal_at rs place = get_or rs place no_literal

-- the pixels that a face covers stay enabled
abbrev pub keep_covered : (end : ℕ) → SolidView → (face : ℕ) → List Macro
keep_covered end s face = map m.KeepSign (edges s end face)

-- what is there where a depth has a fraction
abbrev pub where_fraction : {A : Type 0} → Depths → List A → List A
where_fraction d xs = if d.fraction_bits == 0 then [] else xs

-- a face becomes the candidate, at the first cell that is not before it
abbrev pub load_candidate : LayoutView → Depths → SolidView → (face : ℕ) → List Macro
load_candidate l d s face =
    m.LoadLinear (plus (face_plane s (end_of d) face) (2 ^ d.fraction_bits - 1)) (deep_part l l.key_t)
    ∷ where_fraction d (m.LoadConst (fraction_part l l.key_t) 0 ∷ [])
    ++ m.LoadConst (number_part l l.key_t) (face_number s face)
    ∷ m.SetBit l.alive true ∷ []

-- where it covers the pixel
abbrev pub candidate : LayoutView → Depths → SolidView → (face : ℕ) → List Macro
candidate l d s face = m.All ∷ keep_covered (end_of d) s face ++ load_candidate l d s face

-- an operation is carried out where a face covers the pixel and a form is not above a live candidate
abbrev pub where_passed : LayoutView → (end : ℕ) → SolidView → (face : ℕ) → Linear → Macro → List Macro
where_passed l end s face form operation =
    m.All ∷ m.KeepBit l.alive true ∷ keep_covered end s face
    ++ m.KeepAtMost form (deep_part l l.key_t)
    ∷ operation ∷ []

-- the operations of a step
abbrev pub operations : SceneView → LayoutView → Step → List Macro
operations scene l Start = m.All ∷ m.LoadConst l.key_b (end_of (depths_of scene) * 2 ^ l.number_bits) ∷ []
operations scene l Open = m.All ∷ m.SetBit l.alive false ∷ []
operations scene l (Candidate solid face) = candidate l (depths_of scene) (solid_of scene solid) face
operations scene l (Drop solid face) =
    let end = end_of (depths_of scene) in
    let s = solid_of scene solid in
    where_passed l end s face (face_plane s end face) (m.SetBit l.alive false)
operations scene l Clear = m.All ∷ m.SetBit l.par false ∷ []
operations scene l (Front solid face) =
    let end = end_of (depths_of scene) in
    let s = solid_of scene solid in
    where_passed l end s face (plus (face_plane s end face) (2 ^ scene.fraction_bits)) (m.Toggle l.par)
operations scene l Confirm = m.All ∷ m.KeepBit l.par false ∷ m.SetBit l.alive false ∷ []
operations scene l (Begin other) = m.All ∷ m.SetBit l.par false ∷ []
operations scene l (Turn other solid face) =
    let end = end_of (depths_of scene) in
    let s = solid_of scene solid in
    where_passed l end s face (face_plane s end face) (m.Toggle l.par)
operations scene l (Close other plain) = m.All ∷ m.KeepBit l.par (not plain) ∷ m.SetBit l.alive false ∷ []
operations scene l Merge =
    m.All ∷ m.KeepBit l.alive true ∷ m.KeepLess l.key_t l.key_b ∷ m.Copy l.key_t l.key_b ∷ []

-- the candidate faces: a plain solid's fronts with its near face, a barred one's backs without the far limit
abbrev pub candidate_faces : SolidView → (plain : Bool) → List ℕ
candidate_faces s plain =
    if plain then range_with_len 0 (length s.fronts + 1)
    else range_with_len (length s.fronts + 1) (length s.backs)

-- a candidate stays alive only where its own solid has a cell:
-- before the back of a plain solid, and a whole cell behind the front of a barred one
abbrev pub confirm : SceneView → Literal → List Step
confirm scene q =
    let s = solid_of scene q.solid in
    if q.plain then map (Drop q.solid) (range_with_len (length s.fronts + 1) (length s.backs + 1))
    else Clear ∷ map (Front q.solid) (range_with_len 0 (length s.fronts + 1)) ++ Confirm ∷ []

-- and only inside another solid that is plain, and outside one that is barred: these stand at their places in a list
abbrev pub judge : SceneView → List Literal → (other : ℕ) → List Step
judge scene rs other =
    let r = literal_at rs other in
    Begin other ∷ map (Turn other r.solid) (range_with_len 0 (face_count (solid_of scene r.solid)))
    ++ Close other r.plain ∷ []

-- the steps of literal q of a product, where rs are the others
abbrev pub literal_steps : SceneView → (q : Literal) → (rs : List Literal) → List Step
literal_steps scene q rs =
    Open ∷ map (Candidate q.solid) (candidate_faces (solid_of scene q.solid) q.plain)
    ++ (where_fraction (depths_of scene) (confirm scene q)
    ++ (flat_map (judge scene rs) (range_with_len 0 (length rs)) ++ Merge ∷ []))

abbrev pub product_steps : SceneView → Product → List Step
product_steps scene product = flat_map (λ q. literal_steps scene q (others q product)) (literals product)

-- the background is the first key; then each literal of each product has its turn
abbrev pub steps_with : SceneView → List Product → List Step
steps_with scene products = Start ∷ flat_map (product_steps scene) products

-- the steps of a scene, over the products that can show anything
abbrev pub steps : SceneView → List Step
steps scene = steps_with scene (plan_of scene)

-- the passes of a scene are the operations of its steps
unfoldable pub passes : SceneView → List Macro
passes scene = flat_map (operations scene (layout_of scene)) (steps scene)
