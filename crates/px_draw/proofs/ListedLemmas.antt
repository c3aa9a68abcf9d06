-- The text of a scene's passes, played.
use Rattle.std.proofs.Common.{rules}
use Rattle.px_num.proofs.Basics.{arith, ℕ, ◌≡◌, ◌≢◌, ◌≤◌, List, length, Bool, true, false, nat_lt, if◌then◌else◌}
use Rattle.px_num.proofs.Basics.{Option, Some, None, refl, ap, subst, sym, ◌∙◌}
use Rattle.px_num.specs.Want.{want}
use Rattle.px_macro.proofs.MacroLemmas.{is_lawful_in_more}
use Rattle.px_num.proofs.TruthLaws.{lt_fails}
use Rattle.px_text.specs.declared.text.TheConstants.{MAX_TEXT_BYTES}
use Rattle.px_prune.specs.Kept.{crowd_of}
use Rattle.px_scene.specs.Scenes.{SceneView}
use Rattle.px_sched.specs.Layouts.{layout_of, need_of}
use Rattle.px_sched.proofs.LawfulLaws.{passes_lawful}
use Rattle.px_sched.proofs.PassesLaws.{passes_are_lawful}
use Rattle.px_listing.proofs.AcceptedLemmas.{accepted_is_lawful, memory_is_no_refusal}
use Rattle.px_listing.specs.Listings.{ListingView, canonical_listing}
use Rattle.px_listing.specs.Memories.{played_text}
use Rattle.px_listing.specs.PassesText.{CanPlay, passes_listing}
use Rattle.px_listing.proofs.PassesLemmas.{passes_read_back, show_the_picture}
use Rattle.px_listing.specs.Played.{HasPlayed}
use Rattle.px_listing.specs.Reading.{listing_refusal_of, ListFault}
use Rattle.px_listing.specs.RoundTrip.{IsReadAsListing}
use Rattle.px_commands.specs.declared.refusal.Refusal.{Refusal}
use Rattle.px_draw.specs.ListedScenes.{DoneShowsThePicture, IsListed, ListedPassesArePlayed, ListedPassesShowThePicture}
use Rattle.px_draw.specs.Listings.{list_refusal, list_refusal_by, listing_written}
use Rattle.px_commands.specs.Outcomes.{Outcome, done, refused, refused_past, unless_refused}
use Rattle.px_commands.specs.Refusals.{short_of_bits}
use Rattle.px_commands.proofs.LimitLaws.{at_most}
use Rattle.px_show.specs.declared.fault.TextFault.TheVariants as f

-- an outcome that is done passed the limits of a scene
abbrev limited : Bool → Refusal → Option ℕ → List ℕ → Outcome
limited short reason crowd bytes = if short then refused reason else refused_past crowd (done bytes)

not_short : (short : Bool) (reason : Refusal) (crowd : Option ℕ) (bytes text : List ℕ)
    → limited short reason crowd bytes ≡ done text → short ≡ false
not_short true reason crowd bytes text is = cc
not_short false reason crowd bytes text is = refl

same_bytes : (short : Bool) (reason : Refusal) (crowd : Option ℕ) (bytes text : List ℕ)
    → limited short reason crowd bytes ≡ done text → bytes ≡ text
same_bytes short reason crowd bytes text is = grind arith

can_play : (bits : ℕ) (scene : SceneView) (text : List ℕ) → IsListed bits scene text → CanPlay bits scene
can_play bits scene text is = search (rules, lt_fails, not_short, passes_lawful, is_lawful_in_more, passes_are_lawful)

read_as : (bits : ℕ) (scene : SceneView) (text : List ℕ) → IsListed bits scene text
    → IsReadAsListing bits text (passes_listing scene)
read_as bits scene text is =
    subst (λ (t : List ℕ). IsReadAsListing bits t (passes_listing scene))
    (same_bytes (nat_lt bits (need_of (layout_of scene))) (short_of_bits (need_of (layout_of scene)))
    (crowd_of scene) (canonical_listing (passes_listing scene)) text is.answer)
    (passes_read_back bits scene (can_play bits scene text is) is.few)

written_as : (bits : ℕ) (text : List ℕ) (l : ListingView) → IsReadAsListing bits text l → listing_written text ≡ l
unfolding listing_written
written_as bits text l read = read.read

not_refused : (bits : ℕ) (text : List ℕ) (l : ListingView) → IsReadAsListing bits text l → length text ≤ MAX_TEXT_BYTES
    → list_refusal bits text ≡ None
unfolding list_refusal
not_refused bits text l read short = rw (at_most (length text) short, read.good) refl

pub passes_played : ListedPassesArePlayed
passes_played bits scene text is short = grind (arith, read_as, not_refused, written_as)

pub passes_shown : ListedPassesShowThePicture
passes_shown bits scene text device is played =
    show_the_picture bits scene device.state (can_play bits scene text is)
    (subst (λ (l : ListingView). HasPlayed bits l device.state) (written_as bits text (passes_listing scene)
    (read_as bits scene text is)) played.pixels)

-- an outcome that is done was not refused
not_refused_by : (reason : Option Refusal) (lines answer : List ℕ) → unless_refused reason (done lines) ≡ done answer
    → (reason ≡ None) × (lines ≡ answer)
not_refused_by None lines answer is = (refl, cc)
not_refused_by (Some reason) lines answer is = cc

no_refusal : (refusal : Option ListFault) → refusal ≢ Some (f.Memory want) → list_refusal_by refusal ≡ None
    → refusal ≡ None
no_refusal refusal other none = grind arith

short_of : (long : Bool) (reason : Option Refusal) (past : Refusal) → (if long then Some past else reason) ≡ None
    → reason ≡ None
short_of true reason past none = cc
short_of false reason past none = none

accepted : (bits : ℕ) (text : List ℕ) → list_refusal bits text ≡ None → listing_refusal_of bits text ≡ None
unfolding list_refusal
accepted bits text none = search (rules, no_refusal, memory_is_no_refusal, short_of, nat_lt, length)

pub done_shown : DoneShowsThePicture
done_shown listed_bits bits scene text answer is done_so =
    let read = read_as listed_bits scene text is in
    let same = written_as listed_bits text (passes_listing scene) read in
    let result = not_refused_by (list_refusal bits text) (played_text bits (listing_written text)) answer done_so in
    let can : CanPlay bits scene = grind (arith, accepted, accepted_is_lawful) in
    record {
      lines = sym result.1 ∙ ap (played_text bits) same;
      picture = λ device played. show_the_picture bits scene device.state can
          (subst (λ (l : ListingView). HasPlayed bits l device.state) same played.pixels);
    }
