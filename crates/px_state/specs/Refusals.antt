-- Why a text has no state, and no micros or operations, where it has none. Clauses of public calls stand on it.
use Rattle.std.specs.Prelude.{◌≡◌, ℕ, ◌+◌, ◌⊎◌, Bool, true, false, pos, List, [], ◌∷◌, length}
use Rattle.std.specs.Prelude.{nat_lt, if◌then◌else◌, Option, Some, None, codes, unwrap_or, ◌==◌}
use Rattle.std.specs.List.{filter_map, slice_get, slice_split}
use Rattle.std.specs.Option.{option_map, option_or}
use Rattle.std.specs.Str.{bytes_eq}
use Rattle.px_num.specs.Want.{want}
use Rattle.px_text.specs.declared.text.TheConstants.{MAX_TEXT_BYTES}
use Rattle.px_text.specs.Text.{Words, words_of, worded}
use Rattle.px_model.specs.Scenes.{SceneView}
use Rattle.px_show.specs.declared.fault.LimitKind.TheVariants as kind
use Rattle.px_show.specs.Judged.{SceneFault}
use Rattle.px_show.specs.declared.fault.TextFault.TheVariants as text_fault
use Rattle.px_scene.specs.Reading.{scene_of}
use Rattle.px_scene.specs.Reading as reading
use Rattle.px_prune.specs.Kept.{crowd_of}
use Rattle.px_sched.specs.Layouts.{layout_of, need_of}
use Rattle.px_control.specs.declared.fault.JobFault.{JobFault}
use Rattle.px_control.specs.declared.fault.JobFault.TheVariants as job
use Rattle.px_listing.specs.Listings.{ListingView}
use Rattle.px_listing.specs.PassesText.{passes_listing}
use Rattle.px_listing.specs.Reading.{listing_of}
use Rattle.px_listing.specs.Reading as listing
use Rattle.px_listing.specs.Reading.{ListFault}
use Rattle.px_state.specs.Courses.{total_of_listing}
use Rattle.px_state.specs.Words.{room_of}
use Rattle.px_state.specs.declared.fault.StateFault.{StateFault}
use Rattle.px_state.specs.declared.fault.StateFault.TheVariants as f

-- the faults of the parts; that memory ran out is one for all
abbrev pub fault_of_scene : SceneFault → StateFault
fault_of_scene (text_fault.Malformed line cause) = f.Scene (text_fault.Malformed line cause)
fault_of_scene (text_fault.Limit line kind found) = f.Scene (text_fault.Limit line kind found)
fault_of_scene (text_fault.Memory m) = f.Memory m

abbrev pub fault_of_job : JobFault → StateFault
fault_of_job (job.PixelMemory need) = f.Job (job.PixelMemory need)
fault_of_job (job.Products count) = f.Job (job.Products count)
fault_of_job (job.Memory m) = f.Memory m

abbrev pub list_fault : ListFault → StateFault
list_fault (text_fault.Malformed line cause) = f.Listing (text_fault.Malformed line cause)
list_fault (text_fault.Limit line kind found) = f.Listing (text_fault.Limit line kind found)
list_fault (text_fault.Memory m) = f.Memory m

-- whether the first word of a line is `pxlist`, where it has one
abbrev pub starts_listing : Words → Option Bool
starts_listing [] = None
starts_listing (w ∷ ws) = Some (bytes_eq w (codes "pxlist"))

-- a text whose first word is `pxlist` is to be a listing, and every other one a scene
unfoldable pub is_listing : List ℕ → Bool
is_listing text =
    unwrap_or (slice_get (filter_map (λ line. starts_listing (words_of line)) (slice_split (λ b. b == 10) text)) 0)
    false

-- more bytes than a text may have
abbrev pub past_text_limit : StateFault
past_text_limit = f.Scene (text_fault.Limit 0 kind.Text (pos (MAX_TEXT_BYTES + 1)))

abbrev pub refused_where : Bool → StateFault → Option StateFault
refused_where true fault = Some fault
refused_where false fault = None

-- pixels of so many memory bits must have those that the scene needs, and then its products must be few enough
abbrev pub refusal_by_bits : (bits : ℕ) → SceneView → Option StateFault
refusal_by_bits bits scene =
    let need = need_of (layout_of scene) in
    option_or (refused_where (nat_lt bits need) (f.Job (job.PixelMemory need)))
    (option_map (λ count. f.Job (job.Products count)) (crowd_of scene))

-- a text is too long, or no listing, or no scene that such pixels can hold
unfoldable pub input_refusal : (bits : ℕ) → List ℕ → Option StateFault
input_refusal bits text =
    if nat_lt MAX_TEXT_BYTES (length text) then Some past_text_limit else
    if is_listing text then option_map list_fault (listing.listing_refusal_of bits text) else
    option_or (option_map fault_of_scene (reading.refusal_of text)) (refusal_by_bits bits (scene_of (worded text)))

-- what a text broadcasts
unfoldable pub course_of : List ℕ → ListingView
course_of text = if is_listing text then listing_of (worded text) else passes_listing (scene_of (worded text))

-- a clock must not be past the last
abbrev pub clock_refusal : ListingView → (clock : ℕ) → Option StateFault
clock_refusal l clock = refused_where (nat_lt (total_of_listing l) clock) (f.NoClock (total_of_listing l))

-- and then there must be as many words as are needed
abbrev pub refused_by : (clock clocks words due : ℕ) → Option StateFault
refused_by clock clocks words due =
    option_or (refused_where (nat_lt clocks clock) (f.NoClock clocks)) (refused_where (nat_lt words due) (f.NoRoom due))

abbrev pub course_refusal : (bits : ℕ) → ListingView → (clock words : ℕ) → Option StateFault
course_refusal bits l clock words = refused_by clock (total_of_listing l) words (room_of bits l.nx l.ny)

-- why there is no state of a text after so many clocks, in a list of so many words
abbrev pub state_refusal : (bits : ℕ) → List ℕ → (clock room : ℕ) → Option StateFault
state_refusal bits text clock room =
    option_or (input_refusal bits text) (course_refusal bits (course_of text) clock room)

-- why a text has not so many micros from a clock on
abbrev pub micros_refusal : (bits : ℕ) → List ℕ → (first count : ℕ) → Option StateFault
micros_refusal bits text first count =
    option_or (input_refusal bits text) (clock_refusal (course_of text) (first + count))

-- why a text has not so many operations from one on
abbrev pub operation_refusal : ListingView → (operation : ℕ) → Option StateFault
operation_refusal l operation = refused_where (nat_lt (length l.macros) operation) (f.NoOperation (length l.macros))

abbrev pub operations_refusal : (bits : ℕ) → List ℕ → (first count : ℕ) → Option StateFault
operations_refusal bits text first count =
    option_or (input_refusal bits text) (operation_refusal (course_of text) (first + count))

-- a fault is that memory ran out, or exactly the refusal
abbrev pub IsRefusedBy : StateFault → Option StateFault → Type 0
IsRefusedBy fault refusal = (fault ≡ f.Memory want) ⊎ (refusal ≡ Some fault)
