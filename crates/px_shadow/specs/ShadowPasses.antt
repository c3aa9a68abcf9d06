-- The operations that find by which lights each pixel is lit, once the passes have stored the picture.
-- Clauses of public calls stand on it.
use Rattle.std.specs.Prelude.{ℕ, ◌+◌, true, false, List, [], ◌∷◌, ◌++◌, map}
use Rattle.std.specs.List.{flat_map, range_with_len}
use Rattle.px_macro.specs.declared.operation.Macro.{Macro}
use Rattle.px_macro.specs.declared.operation.Macro.TheVariants as m
use Rattle.px_model.specs.Scenes.{SceneView, SolidView}
use Rattle.px_model.specs.Cells.{depths_of, end_of}
use Rattle.px_face.specs.Faces.{face_count, face_plane}
use Rattle.px_normal.specs.declared.set.SolidSet.{SolidSet}
use Rattle.px_normal.specs.Sets.{solids}
use Rattle.px_sched.specs.Layouts.{LayoutView, deep_part, need_of, number_part}
use Rattle.px_sched.specs.Passes.{keep_covered, solid_of}

-- the memory bit of a light; lights are counted from 1
abbrev pub light_bit : LayoutView → (light : ℕ) → ℕ
light_bit l light = l.par + light

-- the memory bits that the keys and so many lights take
abbrev pub need_with : LayoutView → (lights : ℕ) → ℕ
need_with l lights = need_of l + lights

-- a face turns the parity where it covers the pixel and is not behind the stored cell
abbrev pub stored_turn : LayoutView → (end : ℕ) → SolidView → (face : ℕ) → List Macro
stored_turn l end s face =
    m.All ∷ keep_covered end s face
    ++ m.KeepAtMost (face_plane s end face) (deep_part l l.key_b)
    ∷ m.Toggle l.par ∷ []

-- the light goes out where the stored cell is inside a solid of it
abbrev pub solid_passes : LayoutView → (end light : ℕ) → SolidView → List Macro
solid_passes l end light s =
    m.All ∷ m.SetBit l.par false
    ∷ flat_map (stored_turn l end s) (range_with_len 0 (face_count s))
    ++ m.All ∷ m.KeepBit l.par true ∷ m.SetBit (light_bit l light) false ∷ []

-- and where no face is stored
abbrev pub background_passes : LayoutView → (light : ℕ) → List Macro
background_passes l light =
    m.All ∷ map (λ t. m.KeepBit ((number_part l l.key_b).at + t) false) (range_with_len 0 l.number_bits)
    ++ m.SetBit (light_bit l light) false ∷ []

-- a light is on everywhere before its solids and the background are seen to
abbrev pub light_passes : SceneView → LayoutView → (light : ℕ) → SolidSet → List Macro
light_passes scene l light set =
    m.All ∷ m.SetBit (light_bit l light) true
    ∷ flat_map (λ q. solid_passes l (end_of (depths_of scene)) light (solid_of scene q)) (solids set)
    ++ background_passes l light

-- lights of which the first has this number
abbrev pub passes_from : SceneView → LayoutView → (light : ℕ) → List SolidSet → List Macro
passes_from scene l light [] = []
passes_from scene l light (set ∷ sets) = light_passes scene l light set ++ passes_from scene l (light + 1) sets

abbrev pub shadow_passes : SceneView → LayoutView → List SolidSet → List Macro
shadow_passes scene l lights = passes_from scene l 1 lights
