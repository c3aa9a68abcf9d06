-- A scene over other pixels: the same half-spaces, each with the constant that it has there. Clauses of public
-- calls stand on it.
use Rattle.std.specs.Prelude.{◌≡◌, ℕ, ℤ, pos, ◌+◌, ◌^◌, ◌≤◌, ◌*ℤ◌, None, map}
use Rattle.px_num.specs.declared.linear.Linear.{Linear}
use Rattle.px_num.specs.Forms.{value_at}
use Rattle.px_model.specs.declared.solid.Face.{Face}
use Rattle.px_model.specs.declared.limits.TheConstants.{MAX_DEPTH_BITS, MAX_FRACTION_BITS, MAX_PICTURE_SIZE}
use Rattle.px_model.specs.declared.pixels.Pixels.{Pixels}
use Rattle.px_model.specs.declared.pixels.Pixels.TheVariants as pixels
use Rattle.px_model.specs.Planes.{first_past}
use Rattle.px_model.specs.Scenes.{SceneView, SolidView}

-- pixels that calls take
abbrev pub ArePixels : Pixels → Type 0
ArePixels (pixels.Finer s) = s ≤ 2
ArePixels (pixels.StartingAt x0 y0) = (x0 ≤ 4095) × (y0 ≤ 4095)

-- the constant of a plane: 2^s times as much, or its value at the pixel that is the first one there
abbrev pub constant_over : Pixels → Linear → ℤ
constant_over (pixels.Finer s) plane = pos (2 ^ s) *ℤ plane.c
constant_over (pixels.StartingAt x0 y0) plane = value_at plane x0 y0

abbrev pub plane_over : Pixels → Linear → Linear
plane_over pixels plane = record plane { c = constant_over pixels plane }

abbrev pub face_over : Pixels → Face → Face
face_over pixels face = record face { plane = plane_over pixels face.plane }

abbrev pub solid_over : Pixels → SolidView → SolidView
solid_over pixels s = record s {
  fronts = map (face_over pixels) s.fronts;
  backs = map (face_over pixels) s.backs;
  sides = map (plane_over pixels) s.sides;
}

-- values over finer pixels are 2^s times as large, so that their fractions have s more bits
abbrev pub fraction_over : Pixels → (fraction_bits : ℕ) → ℕ
fraction_over (pixels.Finer s) fraction_bits = fraction_bits + s
fraction_over (pixels.StartingAt x0 y0) fraction_bits = fraction_bits

abbrev pub scene_over : Pixels → (width height : ℕ) → SceneView → SceneView
scene_over pixels width height scene = record {
  width = width;
  height = height;
  depth_bits = scene.depth_bits;
  fraction_bits = fraction_over pixels scene.fraction_bits;
  solids = map (solid_over pixels) scene.solids;
  show = scene.show;
}

-- the scene over other pixels keeps the limits of scenes
pub record HasSceneOver (pixels : Pixels) (columns rows : ℕ) (scene : SceneView) : Type 0 where
  pub some_width : 1 ≤ columns
  pub width : columns ≤ MAX_PICTURE_SIZE
  pub some_height : 1 ≤ rows
  pub height : rows ≤ MAX_PICTURE_SIZE
  pub depth : scene.depth_bits + fraction_over pixels scene.fraction_bits ≤ MAX_DEPTH_BITS
  pub fraction : fraction_over pixels scene.fraction_bits ≤ MAX_FRACTION_BITS
  pub constants : first_past (map (solid_over pixels) scene.solids) ≡ None
