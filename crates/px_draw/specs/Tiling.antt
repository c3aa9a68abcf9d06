-- What is made of a scene tile by tile. Clauses of public calls stand on it.
use Rattle.std.specs.Prelude.{◌≡◌, ℕ, ◌++◌, pos, List, Option, Some, None}
use Rattle.px_array.specs.Slots.{ArrayView}
use Rattle.px_scene.specs.Scenes.{SceneView}
use Rattle.px_show.specs.declared.fault.LimitKind.TheVariants as kind
use Rattle.px_frame.specs.Picture.{depth_image, face_image}
use Rattle.px_tile.specs.declared.fault.WideFault.{WideFault}
use Rattle.px_tile.specs.declared.fault.WideFault.TheVariants as fault
use Rattle.px_tile.specs.Pictures.{IsLastDrawn, LeavesOnWideRefusal}
use Rattle.px_tile.specs.Refusals.{wide_refusal}
use Rattle.px_tile.specs.Tiles.{wide_scene}
use Rattle.px_commands.specs.declared.command.Size.{Size}
use Rattle.px_commands.specs.declared.refusal.Kind.TheVariants as k
use Rattle.px_commands.specs.declared.refusal.Refusal.{Refusal}
use Rattle.px_commands.specs.declared.refusal.Refusal.TheVariants as r
use Rattle.px_commands.specs.declared.status.Status.{Status}
use Rattle.px_commands.specs.declared.status.Status.TheVariants as status
use Rattle.px_commands.specs.Outcomes.{Outcome, done, unless_refused}
use Rattle.px_commands.specs.Refusals.{short_of_bits, too_many}

-- the refusal of a fault; that memory ran out is none
abbrev pub wide_fault_refusal : WideFault → Option Refusal
wide_fault_refusal (fault.Tiles found) = Some (r.Limit 0 k.Tiles (pos found))
wide_fault_refusal (fault.Coefficient found) = Some (r.Limit 0 (k.Scene kind.Coefficient) found)
wide_fault_refusal (fault.PixelMemory need) = Some (short_of_bits need)
wide_fault_refusal (fault.Products count) = Some (too_many count)
wide_fault_refusal (fault.Memory _) = None

abbrev pub wide_refused : Option WideFault → Option Refusal
wide_refused None = None
wide_refused (Some found) = wide_fault_refusal found

-- why a picture of this size is not drawn tile by tile
abbrev pub tiles_refusal : Size → SceneView → (bits : ℕ) → Option Refusal
tiles_refusal size scene bits = wide_refused (wide_refusal scene size.width size.height bits)

-- the depth image and the face image of the wide scene
abbrev pub wide_images : Size → SceneView → List ℕ
wide_images size scene =
    depth_image (wide_scene scene size.width size.height) ++ face_image (wide_scene scene size.width size.height)

abbrev pub tiled : Size → SceneView → (bits : ℕ) → Outcome
tiled size scene bits = unless_refused (tiles_refusal size scene bits) (done (wide_images size scene))

-- what remains of the array, of its slots and its work too: the last tile is drawn, also where the images could not
-- be written; if memory runs out the array is as before, or closed, or a tile is drawn; and otherwise it is as before
abbrev pub DrawsTiles : Status → (bits : ℕ) → Size → SceneView → (before now : ArrayView) → Type 0
DrawsTiles status.Done bits size scene before now = IsLastDrawn bits scene size.width size.height now
DrawsTiles status.WriteFault bits size scene before now = IsLastDrawn bits scene size.width size.height now
DrawsTiles (status.Memory m) bits size scene before now = LeavesOnWideRefusal (fault.Memory m) bits scene size.width
    size.height before now
DrawsTiles found bits size scene before now = now ≡ before
