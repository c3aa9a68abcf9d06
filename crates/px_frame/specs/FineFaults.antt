-- Why a scene has no finer scene, where it has none: the first reason in order. Clauses of public calls stand on it.
use Rattle.std.specs.Prelude.{◌≡◌, ℕ, ◌+◌, ◌-◌, ◌*◌, ◌^◌, min, nat_lt, if◌then◌else◌, Option, Some, ⊤}
use Rattle.std.specs.Option.{option_map}
use Rattle.px_model.specs.declared.limits.TheConstants.{MAX_DEPTH_BITS, MAX_FRACTION_BITS, MAX_PICTURE_SIZE}
use Rattle.px_model.specs.Planes.{first_past}
use Rattle.px_model.specs.Scenes.{SceneView}
use Rattle.px_frame.specs.declared.fine_fault.FineFault.{FineFault}
use Rattle.px_frame.specs.declared.fine_fault.FineFault.TheVariants as fault
use Rattle.px_frame.specs.Finer.{fine_scene}

-- how many bits the fraction of a depth may have
abbrev pub most_fraction : SceneView → ℕ
most_fraction scene = min MAX_FRACTION_BITS (MAX_DEPTH_BITS - scene.depth_bits)

-- the bits of the fraction; the width; the height; the constants
abbrev pub fine_fault : (s : ℕ) → SceneView → Option FineFault
fine_fault s scene =
    if nat_lt (most_fraction scene) (scene.fraction_bits + s) then Some (fault.Fraction (scene.fraction_bits + s))
    else if nat_lt MAX_PICTURE_SIZE (2 ^ s * scene.width) then Some (fault.Picture (2 ^ s * scene.width))
    else if nat_lt MAX_PICTURE_SIZE (2 ^ s * scene.height) then Some (fault.Picture (2 ^ s * scene.height))
    else option_map fault.Coefficient (first_past (fine_scene s scene).solids)

-- a refusal is this fault, or that memory ran out
abbrev pub IsRefusal : Option FineFault → FineFault → Type 0
IsRefusal found (fault.Fraction bits) = found ≡ Some (fault.Fraction bits)
IsRefusal found (fault.Picture pixels) = found ≡ Some (fault.Picture pixels)
IsRefusal found (fault.Coefficient constant) = found ≡ Some (fault.Coefficient constant)
IsRefusal found (fault.Memory _) = ⊤
