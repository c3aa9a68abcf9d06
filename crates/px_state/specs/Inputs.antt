-- What a text is read as, and what that broadcasts. Only proofs and private functions stand on it.
use Rattle.std.specs.Prelude.{◌≡◌, ℕ, ◌^◌, ◌<◌, ◌≤◌, All, List, Option, None, true, false, IfNone, IfSome, length}
use Rattle.px_array.specs.Slots.{ArrayView, HasWorked}
use Rattle.px_listing.specs.Listings.{ListingView}
use Rattle.px_listing.specs.Reading.{listing_of}
use Rattle.px_macro.specs.Macros.{IsLawful}
use Rattle.px_listing.specs.PassesText.{passes_listing}
use Rattle.px_scene.specs.Reading.{scene_of}
use Rattle.px_sched.specs.Cursors.{Stands}
use Rattle.px_sched.specs.Layouts.{layout_of, need_of}
use Rattle.px_text.specs.Text.{worded}
use Rattle.px_tree.specs.Nodes.{IsGrid}
use Rattle.px_state.specs.Courses.{IsNextBroadcast, device_after, total_of_listing}
use Rattle.px_state.specs.Operations.{IsOfListing, IsOperationOf, IsPassed}
use Rattle.px_state.specs.Refusals.{course_of, input_refusal, is_listing, refusal_by_bits}
use Rattle.px_state.specs.States.{FaultLeaves}
use Rattle.px_state.specs.declared.broadcast.Broadcast.{Broadcast}
use Rattle.px_state.specs.declared.broadcast.Broadcast.TheVariants as course
use Rattle.px_state.specs.declared.broadcast.Input.{Input}
use Rattle.px_state.specs.declared.broadcast.Input.TheVariants as input
use Rattle.px_state.specs.declared.broadcast.Mark.{Mark}
use Rattle.px_state.specs.declared.fault.StateFault.{StateFault}
use Rattle.px_state.specs.declared.operation.Operation.{Operation}
use Rattle.px_state.specs.declared.state.Next.{Next}

-- a text is read as a scene, which pixels of so many bits may not hold, or as a listing, which they can play
abbrev pub IsReadAs : (bits : ℕ) → List ℕ → Input → Type 0
IsReadAs bits text (input.Scene scene) =
    (input_refusal bits text ≡ refusal_by_bits bits scene) × (is_listing text ≡ false) × (scene ≡ scene_of (worded text))
IsReadAs bits text (input.Listing l) =
    (input_refusal bits text ≡ None) × (is_listing text ≡ true) × (l ≡ listing_of (worded text))
    × All (λ m. IsLawful m bits) l.macros

-- what is broadcast
abbrev pub listing_in : Broadcast → ListingView
listing_in (course.Passes scene) = passes_listing scene
listing_in (course.Listed l) = l.now

-- pixels of so many bits can carry it out
abbrev pub IsHeldBy : (bits : ℕ) → Broadcast → Type 0
IsHeldBy bits (course.Passes scene) = need_of (layout_of scene) ≤ bits
IsHeldBy bits (course.Listed l) = All (λ m. IsLawful m bits) l.now.macros

abbrev pub IsOperationIn : Broadcast → (k : ℕ) → Operation → Type 0
IsOperationIn (course.Passes scene) = IsPassed scene
IsOperationIn (course.Listed l) = IsOfListing l.now

-- it is what the text broadcasts, which is not refused
pub record IsOf (bits : ℕ) (text : List ℕ) (b : Broadcast) : Type 0 where
  pub taken : input_refusal bits text ≡ None
  pub course : course_of text ≡ listing_in b
  pub held : IsHeldBy bits b
  pub operation : (k : ℕ) (operation : Operation) → IsOperationIn b k operation → IsOperationOf text k operation

-- how many operations a mark has behind it
abbrev pub given_by : Broadcast → Mark → ℕ
given_by (course.Passes scene) mark = mark.cursor.given
given_by (course.Listed l) mark = mark.line

abbrev pub StandsIn : Broadcast → Mark → Type 0
StandsIn (course.Passes scene) mark = Stands scene mark.cursor
StandsIn (course.Listed l) mark = mark.line ≤ length l.now.macros

-- what holds of all that is broadcast
pub record IsGoodCourse (l : ListingView) : Type 0 where
  pub grid : IsGrid l.nx l.ny
  pub lawful : All (λ m. IsLawful m 256) l.macros
  pub few : length l.macros < 2 ^ 43
  pub clocks : total_of_listing l < 2 ^ 43

-- a new array made so many clocks, and that is what comes next
pub record HasRunTo (bits : ℕ) (l : ListingView) (clock : ℕ) (before now : ArrayView) (next : Option Next) : Type 0 where
  pub device : now.device ≡ device_after bits l clock
  pub worked : HasWorked clock before now
  pub coming : IfSome next (λ n. IsNextBroadcast l clock n.operation n.cycle n.micro)
  pub ended : IfNone next (clock ≡ total_of_listing l)

-- a fault with which the array is as it was
abbrev pub KeepsArray : StateFault → Type 0
KeepsArray fault = (bits : ℕ) (l : ListingView) (array : ArrayView) → FaultLeaves fault bits l array array
