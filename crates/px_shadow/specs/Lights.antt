-- By which lights each pixel is lit, and the image of that. Clauses of public calls stand on it.
use Rattle.std.specs.Prelude.{ℕ, Bool, false, not, List, length, get_or, Option, Some, None}
use Rattle.std.specs.List.{list_all}
use Rattle.px_macro.specs.Fields.{number_from_bits}
use Rattle.px_normal.specs.declared.set.SolidSet.{SolidSet}
use Rattle.px_normal.specs.Sets.{empty, solids}
use Rattle.px_model.specs.Scenes.{SceneView}
use Rattle.px_model.specs.Cells.{depths_of, first_cell, is_inside}
use Rattle.px_sched.specs.Passes.{solid_of}
use Rattle.px_frame.specs.Picture.{image_of}

-- a cell is outside each of some solids
abbrev pub is_outside : SceneView → List ℕ → (x y z : ℕ) → Bool
is_outside scene qs x y z = list_all (λ q. not (is_inside (solid_of scene q) (depths_of scene) x y z)) qs

-- a light, given as the set of its shadow solids, lights a pixel whose first cell is outside each of them
abbrev pub is_lit_at : SceneView → (light : SolidSet) → (x y : ℕ) → (first : Option ℕ) → Bool
is_lit_at scene light x y None = false
is_lit_at scene light x y (Some z) = is_outside scene (solids light) x y z

abbrev pub is_lit : SceneView → (light : SolidSet) → (x y : ℕ) → Bool
is_lit scene light x y = is_lit_at scene light x y (first_cell scene x y)

-- the light at a place of the list, which begins with light 1
abbrev pub light_at : List SolidSet → (place : ℕ) → SolidSet
light_at lights place = get_or lights place empty

-- the number whose lowest bit says whether light 1 lights the pixel, the next one whether light 2 does, and so on
abbrev pub mask_at : SceneView → List SolidSet → (x y : ℕ) → ℕ
mask_at scene lights x y = number_from_bits (λ place. is_lit scene (light_at lights place) x y) (length lights)

-- the image of these numbers
abbrev pub mask_image : SceneView → List SolidSet → List ℕ
mask_image scene lights = image_of scene.width scene.height (mask_at scene lights)
