-- The program of a scene: what is broadcast, clock by clock, and the array after so many clocks. Clauses of
-- public calls stand on it.
use Rattle.std.specs.Prelude.{◌≡◌, All, ℕ, ◌+◌, ◌-◌, ◌≤◌, nat_le, nat_lt, List, [], ◌∷◌, filter, length, take}
use Rattle.px_array.specs.declared.micro.Micro.{Micro}
use Rattle.px_array.specs.Arrays.{Device, zero_state}
use Rattle.px_array.specs.Clocks.{after_clocks}
use Rattle.px_asm.specs.Micros.{all_micros, cycles}
use Rattle.px_macro.specs.declared.operation.Macro.{Macro}
use Rattle.px_prune.specs.Kept.{plan_of}
use Rattle.px_model.specs.Grids.{exponent_of}
use Rattle.px_model.specs.Scenes.{IsLawfulScene, SceneView, IsLawfulSolid}
use Rattle.px_sched.specs.Layouts.{layout_of, need_of}
use Rattle.px_sched.specs.Passes.{passes}
use Rattle.px_normal.specs.declared.product.TheConstants.{MAX_PRODUCTS}

-- the grid of a scene has 2^columns by 2^rows pixels
abbrev pub columns_of : SceneView → ℕ
columns_of scene = exponent_of scene.width

abbrev pub rows_of : SceneView → ℕ
rows_of scene = exponent_of scene.height

-- the micros of the passes, one after another
unfoldable pub program : SceneView → List Micro
program scene = all_micros (passes scene) (columns_of scene) (rows_of scene)

-- how many clocks a scene takes
abbrev pub total : SceneView → ℕ
total scene = length (program scene)

abbrev pub cycles_in : SceneView → Macro → ℕ
cycles_in scene m = cycles m (columns_of scene) (rows_of scene)

-- the clocks at which operations end, where the first of them begins at a clock
abbrev pub ends_from : SceneView → List Macro → (clock : ℕ) → List ℕ
ends_from scene [] clock = []
ends_from scene (m ∷ ms) clock = (clock + cycles_in scene m) ∷ ends_from scene ms (clock + cycles_in scene m)

unfoldable pub operation_ends : SceneView → List ℕ
operation_ends scene = ends_from scene (passes scene) 0

-- the operation of the broadcast after the first n, counted from 0: as many have ended
abbrev pub operation_at : SceneView → (n : ℕ) → ℕ
operation_at scene n = length (filter (λ e. nat_le e n) (operation_ends scene))

-- the ends after a clock
abbrev pub ends_after : SceneView → (n : ℕ) → List ℕ
ends_after scene n = filter (λ e. nat_lt n e) (operation_ends scene)

-- where an operation begins
abbrev pub start_of : SceneView → (operation : ℕ) → ℕ
start_of scene operation = length (all_micros (take operation (passes scene)) (columns_of scene) (rows_of scene))

-- the micro of the broadcast after the first n in its operation, counted from 0
abbrev pub micro_at_clock : SceneView → (n : ℕ) → ℕ
micro_at_clock scene n = n - start_of scene (operation_at scene n)

-- an array with pixels of so many memory bits after the first n broadcasts of a scene
unfoldable pub array_after : (bits : ℕ) → SceneView → (n : ℕ) → Device
array_after bits scene n = record {
  state = after_clocks (take n (program scene)) (zero_state bits (columns_of scene) (rows_of scene));
  clocks = n;
}

-- a scene whose kept products are not too many
pub record CanRun (scene : SceneView) : Type 0 where
  pub lawful : IsLawfulScene scene
  pub solids : All IsLawfulSolid scene.solids
  pub few : length (plan_of scene) ≤ MAX_PRODUCTS

-- an array whose pixels have bits enough is as the first n broadcasts of a scene leave it
pub record IsAt (bits : ℕ) (scene : SceneView) (n : ℕ) (device : Device) : Type 0 where
  pub enough : need_of (layout_of scene) ≤ bits
  pub reached : device ≡ array_after bits scene n
