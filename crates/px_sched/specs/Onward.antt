-- The rest of the steps from one of them on; products whose passes can be made.
-- Only proofs and private functions stand on it.
use Rattle.std.specs.Prelude.{◌≡◌, ◌<◌, ◌^◌, ℕ, All, Bool, List, [], ◌∷◌, ◌++◌, length, Option, Some, None, if◌then◌else◌}
use Rattle.px_face.specs.Faces.{face_plane}
use Rattle.px_macro.specs.declared.operation.Macro.{Macro}
use Rattle.px_model.specs.Cells.{depths_of, end_of}
use Rattle.px_model.specs.Scenes.{SceneView}
use Rattle.px_normal.specs.declared.product.Product.{Product}
use Rattle.px_num.specs.Forms.{plus}
use Rattle.px_num.specs.declared.linear.Linear.{Linear}
use Rattle.px_sched.specs.declared.literal.Literal.{Literal}
use Rattle.px_sched.specs.declared.step.Step.{Step}
use Rattle.px_sched.specs.Passes.{keep_covered, literals, solid_of}
use Rattle.px_sched.specs.Steps.{IsStep, IsStepOf, behind_step}

-- these steps of a literal begin with one, if any: it is a step of the literal, with a face of the scene, and the
-- others come behind it
pub record BeginWith (scene : SceneView) (q : Literal) (rs : List Literal) (steps : List Step) (first : Step) : Type 0 where
  pub left : steps ≡ first ∷ behind_step scene q rs first
  pub step : IsStepOf scene q rs first
  pub faces : IsStep scene first

abbrev pub BeginIfAny : SceneView → (q : Literal) → (rs : List Literal) → List Step → Option Step → Type 0
BeginIfAny scene q rs steps None = steps ≡ []
BeginIfAny scene q rs steps (Some step) = BeginWith scene q rs steps step

-- the plane of a face, or a whole cell further
abbrev pub passed_plane : SceneView → (solid face : ℕ) → (further : Bool) → Linear
passed_plane scene solid face further =
    let plane = face_plane (solid_of scene solid) (end_of (depths_of scene)) face in
    if further then plus plane (2 ^ scene.fraction_bits) else plane

-- operations around those of the edges of a face
abbrev pub around_edges : SceneView → (solid face : ℕ) → (head tail : List Macro) → List Macro
around_edges scene solid face head tail =
    head ++ keep_covered (end_of (depths_of scene)) (solid_of scene solid) face ++ tail

-- each of these literals is of a solid of the scene
abbrev pub AreKnown : SceneView → List Literal → Type 0
AreKnown scene rs = All (λ r. r.solid < length scene.solids) rs

-- a product has a literal, and its literals are of solids of the scene
pub record HasKnownLiterals (scene : SceneView) (product : Product) : Type 0 where
  pub some : 0 < length (literals product)
  pub known : AreKnown scene (literals product)
