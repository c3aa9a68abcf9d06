-- How many bytes a command's images have, by the size of its scene's picture alone. Only proofs and private functions
-- stand on it.
use Rattle.std.specs.Prelude.{◌≡◌, ℕ, ◌+◌, ◌*◌, length}
use Rattle.px_commands.specs.declared.command.Work.{Work}
use Rattle.px_commands.specs.declared.command.Work.TheVariants as w
use Rattle.px_commands.specs.Outcomes.{Outcome, cut, done, refused, usage}
use Rattle.px_frame.specs.Picture.{header}

-- three bytes a pixel come after the header
abbrev pub image_size : (width height : ℕ) → ℕ
image_size width height = length (header width height) + 3 * (width * height)

-- all images of a command, and 0 where it writes none
abbrev pub images_size : Work → (width height : ℕ) → ℕ
images_size w.Render width height = 2 * image_size width height
images_size w.Colour width height = image_size width height
images_size w.Tidy width height = 0
images_size w.Plan width height = 0
images_size w.Cost width height = 0
images_size (w.Refine fineness) width height = image_size width height
images_size (w.Tile size) width height = 2 * image_size size.width size.height
images_size w.List width height = 0

-- an outcome writes so many bytes, and refuses nothing
abbrev pub WritesBytes : (count : ℕ) → Outcome → Type 0
WritesBytes count usage = ⊥
WritesBytes count (refused reason) = ⊥
WritesBytes count (cut bytes reason) = ⊥
WritesBytes count (done bytes) = length bytes ≡ count
