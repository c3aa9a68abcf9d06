-- What an image shows of the numbers that are found. Only proofs and private functions stand on it.
use Rattle.std.specs.Prelude.{ℕ, ◌/◌, ◌%◌, ◌^◌, ◌<◌, List}
use Rattle.std.specs.List.{flat_map}
use Rattle.px_frame.specs.Picture.{three_bytes, depth_image, face_image}
use Rattle.px_model.specs.Scenes.{SceneView}
use Rattle.px_tile.specs.declared.image.Part.{Part}
use Rattle.px_tile.specs.declared.image.Part.TheVariants as part

abbrev pub part_of : Part → ℕ → ℕ
part_of part.Depth number = number / 2 ^ 32
part_of part.Face number = number % 2 ^ 32

-- a number whose part is below 2 ^ 24
abbrev pub IsSmall : Part → ℕ → Type 0
IsSmall part number = part_of part number < 2 ^ 24

-- the pixels of numbers
abbrev pub bytes_of : Part → List ℕ → List ℕ
bytes_of part found = flat_map (λ number. three_bytes (part_of part number)) found

abbrev pub part_image : Part → SceneView → List ℕ
part_image part.Depth scene = depth_image scene
part_image part.Face scene = face_image scene
