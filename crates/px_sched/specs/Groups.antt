-- The steps of a scene as a start and groups, a group for each step of each literal of each product.
-- Clauses of public calls stand on it.
use Rattle.std.specs.Prelude.{◌≡◌, ℕ, ◌+◌, ◌<◌, ⊤, List, [], ◌∷◌, ◌++◌, drop, length, get_or, Option, Some, None}
use Rattle.std.specs.List.{flat_map}
use Rattle.px_normal.specs.declared.product.Product.{Product}
use Rattle.px_model.specs.Scenes.{SceneView}
use Rattle.px_sched.specs.declared.group.Group.{Group}
use Rattle.px_sched.specs.declared.group.Stage.{Stage}
use Rattle.px_sched.specs.declared.group.Stage.TheVariants.{At, End, Start}
use Rattle.px_sched.specs.declared.literal.Literal.{Literal}
use Rattle.px_sched.specs.declared.step.Step.{Step}
use Rattle.px_sched.specs.declared.step.Step.TheVariants as step
use Rattle.px_sched.specs.Passes.{literal_at, literal_steps, literals, others, product_steps}
use Rattle.px_sched.specs.Steps.{IsStepOf, IsStep, behind_step}

abbrev pub no_product : Product
no_product = record { plain = record { words = [] }; barred = record { words = [] } }

abbrev pub product_at : List Product → (place : ℕ) → Product
product_at products place = get_or products place no_product

-- the literal that a group is of, and the other literals of its product
abbrev pub literal_of : List Product → Group → Literal
literal_of products g = literal_at (literals (product_at products g.product)) g.literal

abbrev pub others_of : List Product → Group → List Literal
others_of products g = others (literal_of products g) (product_at products g.product)

abbrev pub products_from : SceneView → List Product → (product : ℕ) → List Step
products_from scene products i = flat_map (product_steps scene) (drop i products)

-- from one literal of a product on
abbrev pub literals_from : SceneView → List Product → (product literal : ℕ) → List Step
literals_from scene products i j =
    let product = product_at products i in
    flat_map (λ q. literal_steps scene q (others q product)) (drop j (literals product))
    ++ products_from scene products (i + 1)

abbrev pub behind_stage : SceneView → List Product → Stage → List Step
behind_stage scene products Start = products_from scene products 0
behind_stage scene products (At g) =
    behind_step scene (literal_of products g) (others_of products g) g.step
    ++ literals_from scene products g.product (g.literal + 1)
behind_stage scene products End = []

-- the steps from a stage on: its own, if it has one, and those behind it
abbrev pub step_of : Stage → Option Step
step_of Start = Some step.Start
step_of (At g) = Some g.step
step_of End = None

abbrev pub from_stage : SceneView → List Product → Stage → List Step
from_stage scene products Start = step.Start ∷ behind_stage scene products Start
from_stage scene products (At g) = g.step ∷ behind_stage scene products (At g)
from_stage scene products End = []

-- a group of the passes
pub record IsGroup (scene : SceneView) (products : List Product) (g : Group) : Type 0 where
  pub product : g.product < length products
  pub literal : g.literal < length (literals (product_at products g.product))
  pub step : IsStepOf scene (literal_of products g) (others_of products g) g.step
  pub faces : IsStep scene g.step

abbrev pub IsStage : SceneView → List Product → Stage → Type 0
IsStage scene products Start = ⊤
IsStage scene products (At g) = IsGroup scene products g
IsStage scene products End = ⊤

-- these steps begin at a stage
pub record BeginAt (scene : SceneView) (products : List Product) (steps : List Step) (first : Stage) : Type 0 where
  pub left : steps ≡ from_stage scene products first
  pub stage : IsStage scene products first
