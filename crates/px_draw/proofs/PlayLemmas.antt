-- What was played of a text that was read, it was played of the input.
use Rattle.px_num.proofs.Basics.{rules}
use Rattle.px_num.proofs.Basics.{ℕ, ◌≡◌, ◌≤◌, List, length, Some, None, Result, Err, refl, Consumes}
use Rattle.px_io.specs.Reports.{ConsumesAtMost, IsFrontOf}
use Rattle.px_io.specs.declared.reading.ReadError.{ReadError}
use Rattle.px_listing.specs.Listings.{ListingView}
use Rattle.px_listing.specs.Memories.{played_text}
use Rattle.px_commands.specs.declared.stop.Stop.{Stop}
use Rattle.px_commands.specs.declared.stop.SceneStop.{SceneStop}
use Rattle.px_draw.specs.Listings.{IsPlayed, PerformsPlay, Plays, list_refusal, listing_written, played_out}
use Rattle.px_commands.specs.Ends.{Ends, IsUntouched}
use Rattle.px_commands.specs.Outcomes.{done, refused, unless_refused}
use Rattle.px_commands.specs.Refusals.{too_long}
use Rattle.px_commands.specs.Results.{status_in, status_of}
use Rattle.px_commands.specs.Stops.{DoesWork, StopsAt, read_stop, stopped}
use Rattle.px_commands.proofs.FrontLaws.{LeavesAlike, ServesText, performs_served, text_serves}
use Rattle.px_commands.proofs.FrontLaws as front
use Rattle.px_commands.proofs.LimitLaws.{past_limit}
use Rattle.px_commands.proofs.StopLaws.{read_leaves, refused_leaves}

-- a listing is played, where a text was read
abbrev pub PlaysText : Result (Unit {0}) Stop → (bits : ℕ) → (before after : Ends) → (text : List ℕ) → Type 0
PlaysText result bits before after text =
    ServesText result (λ text. played_out text bits)
    (λ text old new. Plays (status_in result) bits (listing_written text) old new) before after text

-- a text past the limit is refused for it
long_refused : (bits : ℕ) (text : List ℕ) → 1048577 ≤ length text → list_refusal bits text ≡ Some too_long
unfolding list_refusal
long_refused bits text le = rw (past_limit (length text) le) refl

long_played : (bits : ℕ) (text : List ℕ) → 1048577 ≤ length text → played_out text bits ≡ refused too_long
long_played bits text le = rw (long_refused bits text le) refl

plays_alike : (result : Result (Unit {0}) Stop) (bits : ℕ)
    → LeavesAlike result (λ text old new. Plays (status_in result) bits (listing_written text) old new)
plays_alike result bits one other before now long meets is =
    refused_leaves result too_long (IsPlayed bits (listing_written one)) (IsPlayed bits (listing_written other))
    before now meets is

-- a text that was read answers for the input
pub performs_played : (result : Result (Unit {0}) Stop) (text : List ℕ) (bits : ℕ) (before after : Ends)
    → IsFrontOf before.rest 1048577 text → Consumes before.rest after.rest text
    → PlaysText result bits before after text → PerformsPlay result bits before after
performs_played result text bits before after front consumed plays =
    performs_served result (λ text. played_out text bits)
    (λ text old new. Plays (status_in result) bits (listing_written text) old new) before after text consumed
    (text_serves result (λ text. played_out text bits)
    (λ text old new. Plays (status_in result) bits (listing_written text) old new) before after text (long_played bits)
    (plays_alike result bits) front plays)

-- the work stops at a read, whatever the text is
pub performs_unread : (bits : ℕ) (fault : ReadError) (before after : Ends) → IsUntouched before after
    → ConsumesAtMost before.rest after.rest 1048577 → PerformsPlay (Err (read_stop fault)) bits before after
performs_unread bits fault before after idle took =
    front.performs_unread fault (λ text. played_out text bits)
    (λ text old new. Plays (status_of (read_stop fault)) bits (listing_written text) old new) before after idle took
    (λ text. read_leaves fault (IsPlayed bits (listing_written text)) before.array)

-- the work stops at its text
pub plays_text : (bytes lent : List ℕ) (told bits : ℕ) (stop : SceneStop) (before after : Ends) → told ≡ bits
    → lent ≡ bytes → StopsAt (unless_refused (list_refusal told lent)) stop → after.out ≡ before.out
    → after.array ≡ before.array → PlaysText (Err (stopped stop)) bits before after bytes
plays_text bytes lent told bits stop before after width same stops out array = search rules

-- the listing of a text is played
pub plays_listing : (result : Result (Unit {0}) Stop) (bytes lent : List ℕ) (told bits : ℕ) (l : ListingView)
    (before after : Ends) → told ≡ bits → lent ≡ bytes → list_refusal told lent ≡ None
    → l ≡ listing_written lent → DoesWork result (done (played_text bits l)) before.out after.out
    → Plays (status_in result) bits l before.array after.array → PlaysText result bits before after bytes
plays_listing result bytes lent told bits l before after width same good is serves array = search rules
