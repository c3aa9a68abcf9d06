-- What `play` answers, and what it leaves of the array. Clauses of public calls stand on it.
use Rattle.std.specs.Prelude.{◌≡◌, ℕ, List, length, nat_lt, if◌then◌else◌, Option, Some, None, Result}
use Rattle.std.specs.List.{sum_by}
use Rattle.px_text.specs.declared.text.TheConstants.{MAX_TEXT_BYTES}
use Rattle.px_array.specs.Arrays.{Device}
use Rattle.px_array.specs.Slots.{ArrayView}
use Rattle.px_asm.specs.Micros.{cycles}
use Rattle.px_text.specs.Text.{worded}
use Rattle.px_listing.specs.Listings.{ListingView}
use Rattle.px_listing.specs.Memories.{played_text}
use Rattle.px_listing.specs.Played.{HasPlayed, played_on}
use Rattle.px_listing.specs.Reading.{listing_of, listing_refusal_of}
use Rattle.px_listing.specs.Reading.{ListFault}
use Rattle.px_commands.specs.declared.refusal.Refusal.{Refusal}
use Rattle.px_commands.specs.declared.stop.Stop.{Stop}
use Rattle.px_commands.specs.declared.status.Status.{Status}
use Rattle.px_commands.specs.Arrays.{LeavesMade}
use Rattle.px_commands.specs.Ends.{Ends}
use Rattle.px_commands.specs.Inputs.{PerformsOver, WritesAndLeaves}
use Rattle.px_commands.specs.Outcomes.{Outcome, done, unless_refused}
use Rattle.px_commands.specs.Refusals.{list_refusal_in, too_long}
use Rattle.px_commands.specs.Results.{status_in}

-- the refusal of a fault, where there is one
abbrev pub list_refusal_by : Option ListFault → Option Refusal
list_refusal_by None = None
list_refusal_by (Some fault) = list_refusal_in fault

-- why a text is no listing for pixels of so many bits, where it is none: past the limit of a text, or by a line
unfoldable pub list_refusal : (bits : ℕ) → List ℕ → Option Refusal
list_refusal bits text =
    if nat_lt MAX_TEXT_BYTES (length text) then Some too_long else list_refusal_by (listing_refusal_of bits text)

-- its listing
unfoldable pub listing_written : List ℕ → ListingView
listing_written text = listing_of (worded text)

-- the refusal of a text, otherwise the memory that its listing leaves, played on zeros
abbrev pub played_out : List ℕ → (bits : ℕ) → Outcome
played_out text bits = unless_refused (list_refusal bits text) (done (played_text bits (listing_written text)))

-- a new array was clocked by the operations of a listing, one after another
pub record IsPlayed (bits : ℕ) (l : ListingView) (device : Device) : Type 0 where
  pub is : device ≡ played_on bits l
  pub clocks : device.clocks ≡ sum_by (λ m. cycles m l.nx l.ny) l.macros
  pub pixels : HasPlayed bits l device.state

-- what remains of the array where a listing is played
abbrev pub Plays : Status → (bits : ℕ) → ListingView → (before now : ArrayView) → Type 0
Plays status bits l before now = LeavesMade (IsPlayed bits l) status before now

-- what is written, and what remains of the array
abbrev pub LeavesPlayed : Result (Unit {0}) Stop → (bits : ℕ) → (bytes : List ℕ) → (before after : Ends) → Type 0
LeavesPlayed result bits bytes before after =
    WritesAndLeaves result (played_out bytes bits)
    (λ old new. Plays (status_in result) bits (listing_written bytes) old new) before after

-- what the command does over an input
abbrev pub PerformsPlay : Result (Unit {0}) Stop → (bits : ℕ) → (before after : Ends) → Type 0
PerformsPlay result bits before after =
    PerformsOver result (λ bytes. played_out bytes bits) (λ input. LeavesPlayed result bits input.bytes before after)
    before after
