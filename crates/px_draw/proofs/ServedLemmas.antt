-- What a session over an input is, by how it ended, and what a run is whose session did not begin.
use Rattle.px_num.proofs.Basics.{ℕ, ◌≡◌, ◌⊎◌, ◌-◌, ◌≤◌, ◌++◌, ◌&&◌, not, inl, inr, Bool, List, [], length, take}
use Rattle.px_num.proofs.Basics.{true, false, Option, Some, None, Result, Err, refl, ap, sym, ◌∙◌, arith, append_assoc}
use Rattle.px_num.proofs.Basics.{append-nil, is_some, length-append, if◌then◌else◌, nat_tests, common_steps, Consumes}
use Rattle.px_num.proofs.Basics.{IsAtEnd}
use Rattle.px_io.specs.Reports.{ConsumesAtMost, TakesNone}
use Rattle.px_io.specs.declared.reading.ReadError.{ReadError}
use Rattle.px_io.proofs.ToldLaws.{consumes_both}
use Rattle.px_asked.specs.Asks.{Ask}
use Rattle.px_asked.specs.Parts.{part_end}
use Rattle.px_asked.specs.Readings.{TookNoPart}
use Rattle.px_asked.specs.declared.reading.Opening.{Opening}
use Rattle.px_scene.specs.Scenes.{SceneView}
use Rattle.px_debug.specs.Moves.{Fits, SessionView}
use Rattle.px_debug.specs.Prompts.{Moment, moment}
use Rattle.px_debug.specs.Servings.{HasRead, HasServed, lines_in, seen}
use Rattle.px_debug.specs.SessionLaws.{QuitEnds}
use Rattle.px_debug.specs.Sessions.{session_opened, stand}
use Rattle.px_debug.specs.declared.serving.Ending.{Ending}
use Rattle.px_commands.specs.declared.stop.SceneStop.{SceneStop}
use Rattle.px_commands.specs.declared.stop.Stop.{Stop}
use Rattle.px_commands.specs.Ends.{Ends, IsUntouched}
use Rattle.px_commands.specs.Inputs.{IsInput}
use Rattle.px_commands.specs.Outcomes.{Outcome, cut, done, drawable, has_output, refusal}
use Rattle.px_commands.specs.Refusals.{is_long, text_refusal, too_long}
use Rattle.px_commands.specs.Results.{Meets, status_of}
use Rattle.px_commands.specs.Stops.{read_stop, stopped}
use Rattle.px_commands.proofs.LimitLaws.{long_is, short_is}
use Rattle.px_draw.specs.Debugs.{Admits, LeavesSession, PerformsSession, admitted, all_sitting, answered}
use Rattle.px_draw.specs.Debugs.{command_text, debugged, has_part, part_scene, scene_part_of, scene_written}
use Rattle.px_draw.specs.Debugs.{whole_sitting, within_limit}
use Rattle.px_draw.specs.Sittings.{IsOpening, IsSceneOf, LeavesClosed, MayFollow, Opens, Refuses, Sits, more_than}
use Rattle.px_draw.specs.Sittings.{result_of}
use Rattle.px_draw.proofs.PartLemmas.{admitted_is, and_not, cut_both, debugged_is}
use Rattle.px_io.specs.declared.reading.ReadError.TheVariants as read
use Rattle.px_debug.specs.declared.serving.Ending.TheVariants as e
use Rattle.px_commands.specs.declared.refusal.Refusal.TheVariants as r
use Rattle.px_commands.specs.declared.stop.SceneStop.TheVariants as halted
use Rattle.px_commands.specs.declared.stop.Stop.TheVariants as s

-- what an input has after the bytes that were taken of it
pub record Extends (known rest : Option (List ℕ)) (taken : List ℕ) : Type 0 where
  pub more : List ℕ
  pub input : IsInput known (taken ++ more)
  pub end : IsAtEnd rest → more ≡ []

extends : (known rest : Option (List ℕ)) (taken : List ℕ) → Consumes known rest taken → Extends known rest taken
extends None rest taken consumed = record { more = []; input = tt; end = λ is. refl }
extends (Some bytes) None taken consumed = absurd consumed
extends (Some bytes) (Some rest) taken consumed = record { more = rest; input = sym consumed; end = λ is. is }

-- what is so of all bytes of an input is what a session does over it
performs_over : (result : Result (Unit {0}) Stop) (bits : ℕ) (before after : Ends) (taken : List ℕ)
    → Consumes before.rest after.rest taken → (ext : Extends before.rest after.rest taken)
    → Meets result (debugged (taken ++ ext.more) bits)
    → LeavesSession result bits (record { bytes = taken ++ ext.more; taken = taken }) before after
    → PerformsSession result bits before after
performs_over result bits before after taken consumed ext meets leaves = grind arith

pub no_part : (bytes : List ℕ) → part_end (within_limit bytes) ≡ None → has_part bytes ≡ false
unfolding has_part
no_part bytes none = ap is_some none

-- the input was not read as far as the scene part
pub performs_open : (bits : ℕ) (fault : ReadError) (before after : Ends)
    → (fault ≡ read.Failed → TookNoPart before.rest after.rest 1048577) → ConsumesAtMost before.rest after.rest 1048577
    → IsUntouched before after → PerformsSession (Err (read_stop fault)) bits before after
performs_open bits read.Failed before after failed most idle =
    let took = failed refl in
    performs_over (Err s.ReadFault) bits before after took.0 took.1 (extends before.rest after.rest took.0 took.1) tt
    (record {
      whole = λ part. absurd (let two : true ≡ false = sym part ∙ no_part took.0 took.3 in cc);
      other = λ part. idle;
    })
performs_open bits (read.Memory m) before after failed most idle =
    performs_over (Err (s.Memory m)) bits before after most.0 most.1 (extends before.rest after.rest most.0 most.1) tt
    (idle.out, inl idle.array)

-- no session began
either : {A B : Type 0} → A ⊎ (B × A) → A
either (inl a) = a
either (inr (b, a)) = a

pub performs_closed : (bits : ℕ) (stop : SceneStop) (o : Opening) (before after : Ends) → Opens o before.rest after.rest
    → Refuses bits o stop → TakesNone before.out after.out
    → (after.array ≡ before.array) ⊎ ((text_refusal (scene_part_of o.text.items) ≡ None)
    × LeavesClosed (status_of (stopped stop)) bits (part_scene o.text.items) before.array after.array)
    → PerformsSession (Err (stopped stop)) bits before after
performs_closed bits (halted.Memory m) o before after opens refuses idle kept =
    performs_over (Err (s.Memory m)) bits before after o.text.items opens.taken
    (extends before.rest after.rest o.text.items opens.taken) tt (idle, kept)
performs_closed bits (halted.Refused (r.Malformed line cause)) o before after opens refuses idle kept =
    let ext = extends before.rest after.rest o.text.items opens.taken in
    let is = refuses ext.more (λ none short. ext.end (opens.end none short)) in
    performs_over (Err (s.Refused (r.Malformed line cause))) bits before after o.text.items opens.taken ext
    (ap refusal is) (record { out = idle; array = either kept })
performs_closed bits (halted.Refused (r.Limit line kind found)) o before after opens refuses idle kept =
    let ext = extends before.rest after.rest o.text.items opens.taken in
    let is = refuses ext.more (λ none short. ext.end (opens.end none short)) in
    performs_over (Err (s.Refused (r.Limit line kind found))) bits before after o.text.items opens.taken ext
    (ap refusal is) (rw is (record { out = idle; array = either kept }))

-- a session began on what was read
pub record Begins (bits : ℕ) (o : Opening) (scene : SceneView) (read : List ℕ) : Type 0 where
  pub opening : IsOpening o
  pub is : IsSceneOf o scene read
  pub draws : (x : Outcome) → drawable bits scene x ≡ x

-- what is known of it with more behind it
pub record Holds (bits : ℕ) (o : Opening) (found : SceneView) (more bytes : List ℕ) : Type 0 where
  pub scene : part_scene bytes ≡ found
  pub admits : Admits bits bytes
  pub outcome : debugged bytes bits ≡ answered bytes bits
  pub behind : command_text bytes ≡ command_text o.text.items ++ seen (more_than o.text.items) more
  pub whole : has_part bytes ≡ is_some o.part

pub holds : (bits : ℕ) (o : Opening) (scene : SceneView) (read : List ℕ) → Begins bits o scene read
    → (more bytes : List ℕ) → MayFollow o more → bytes ≡ o.text.items ++ more → Holds bits o scene more bytes
holds bits o scene read begins more bytes follows is =
    let grown = begins.opening.grown begins.is.short more follows in
    let admits : Admits bits (o.text.items ++ more) = λ x. ap (λ part. admitted part bits x) grown.part
    ∙ admitted_is o bits scene read x begins.is ∙ begins.draws x in
    rw is (record {
      scene = ap scene_written grown.part ∙ sym begins.is.scene;
      admits = admits;
      outcome = debugged_is (o.text.items ++ more) bits grown.within ∙ admits (answered (o.text.items ++ more) bits);
      behind = grown.behind;
      whole = grown.whole;
    })

-- the answers where a quit stands among the whole lines or the input ends, and past the limit
answered_all : (bytes : List ℕ) (bits : ℕ) → (is_long bytes && not (whole_sitting bits bytes).quit) ≡ false
    → answered bytes bits ≡ done (all_sitting bits bytes).said
unfolding answered
answered_all bytes bits all = rw all refl

answered_long : (bytes : List ℕ) (bits : ℕ) → is_long bytes ≡ true → (whole_sitting bits bytes).quit ≡ false
    → answered bytes bits ≡ cut (whole_sitting bits bytes).said too_long
unfolding answered
answered_long bytes bits long quiet = rw (long, quiet) refl

either_output : (t : Bool) (a b : Outcome) → has_output a ≡ true → has_output b ≡ true
    → has_output (if t then a else b) ≡ true
either_output true a b p q = p
either_output false a b p q = q

has_answered : (bytes : List ℕ) (bits : ℕ) → has_output (answered bytes bits) ≡ true
unfolding answered
has_answered bytes bits = either_output (is_long bytes && not (whole_sitting bits bytes).quit) _ _ refl refl

-- `z` was taken behind what was read before, and `rest` stands behind that
record Sat (bits : ℕ) (o : Opening) (scene : SceneView) (z rest : List ℕ) (after : Ends) : Type 0 where
  pub quit : QuitEnds
  pub few : length o.text.items ≤ 1048577
  pub end : IsAtEnd after.rest → rest ≡ []
  pub taken : Holds bits o scene z (o.text.items ++ z)
  pub all : Holds bits o scene (z ++ rest) ((o.text.items ++ z) ++ rest)

-- the commands of all bytes are those of the bytes that were taken, and what counts of the rest
behind : (bits : ℕ) (o : Opening) (scene : SceneView) (z rest : List ℕ) (after : Ends)
    → Sat bits o scene z rest after → command_text ((o.text.items ++ z) ++ rest)
    ≡ command_text (o.text.items ++ z) ++ take (more_than o.text.items - 1 - length z) rest
behind bits o scene z rest after sat = grind (arith, cut_both, append_assoc)

-- what a session does, by how it ended
abbrev Comes : Result (Unit {0}) Stop → (bits : ℕ) → (taken bytes : List ℕ) → (before after : Ends) → Type 0
Comes result bits taken bytes before after =
    Meets result (debugged bytes bits) × LeavesSession result bits (record { bytes = bytes; taken = taken }) before
    after

comes : (ending : Ending) (bits : ℕ) (o : Opening) (scene : SceneView) (now : SessionView) (z rest : List ℕ)
    (before after : Ends) → Sat bits o scene z rest after → Fits bits now after.array
    → (ending ≡ e.ReadFault → is_some o.part ≡ true) → HasRead ending z (more_than o.text.items) after.rest
    → HasServed ending bits (stand (session_opened scene) 0 before.out) (stand now after.array.work after.out)
    (lines_in (command_text (o.text.items ++ z)))
    → Comes (result_of ending) bits (o.text.items ++ z) ((o.text.items ++ z) ++ rest) before after
comes e.Quit bits o scene now z rest before after sat fits part read served =
    let bytes = (o.text.items ++ z) ++ rest in
    let stays = sat.quit bits (session_opened scene) (command_text (o.text.items ++ z))
    (take (more_than o.text.items - 1 - length z) rest) served.1 in
    let more = behind bits o scene z rest after sat in
    let quits : (whole_sitting bits bytes).quit ≡ true = rw (more, sat.all.scene, stays.whole) served.1 in
    let is = sat.all.outcome
    ∙ answered_all bytes bits (and_not (is_long bytes) (whole_sitting bits bytes).quit quits) in
    (rw is refl, record { now = now; answered = rw (sat.all.scene, more, stays.all) served.0; fits = fits })
comes e.End bits o scene now z rest before after sat fits part read served =
    grind (arith, append-nil, short_is, length-append, answered_all)
comes e.Long bits o scene now z rest before after sat fits part read served =
    grind (arith, nat_tests, common_steps, behind, append-nil, long_is, length-append, answered_long)
comes e.ReadFault bits o scene now z rest before after sat fits part read served = grind arith
comes e.WriteFault bits o scene now z rest before after sat fits part read served = grind (arith, has_answered)

-- command lines behind a whole scene part were answered, or there was none
neither : (xs ys : List ℕ) → xs ≡ [] → ys ≡ [] → xs ++ ys ≡ []
neither xs ys first second = rw (first, second) refl

some_part : (part : Option ℕ) → (part ≡ None → ⊥) → is_some part ≡ true
some_part None other = absurd (other refl)
some_part (Some n) other = refl

pub performs_sits : QuitEnds → (result : Result (Unit {0}) Stop) (ending : Ending) (bits : ℕ) (o : Opening)
    (scene : SceneView) (read : List ℕ) (from now : SessionView) (work : ℕ) (asks asks' : Option (List Ask))
    (rest : Option (List ℕ)) (faults : ℕ) (before after : Ends) → Begins bits o scene read → Opens o before.rest rest
    → result ≡ result_of ending → from ≡ session_opened scene → work ≡ 0
    → Fits bits now after.array
    → Sits o ending bits read (moment from work before.out asks rest faults)
    (moment now after.array.work after.out asks' after.rest after.faults) → PerformsSession result bits before after
performs_sits quit result ending bits o scene read from now work asks asks' rest faults before after begins opens is
    start none fits sits =
    let text = o.text.items in
    let z = sits.serves.bytes in
    let consumed = consumes_both before.rest rest after.rest text z opens.taken sits.serves.taken in
    let ext = extends before.rest after.rest (text ++ z) consumed in
    let taken = holds bits o scene read begins z (text ++ z) (λ none short. (sits.idle none).0) refl in
    let all = holds bits o scene read begins (z ++ ext.more) ((text ++ z) ++ ext.more)
    (λ none short. neither z ext.more (sits.idle none).0 (ext.end (sits.idle none).2)) (append_assoc text z ext.more) in
    let served = rw (start, none, begins.is.commands, ← taken.behind) at sits.serves.served in
    let comes = comes ending bits o scene now z ext.more before after
    (record { quit = quit; few = begins.opening.few; end = ext.end; taken = taken; all = all }) fits
    (λ fault. some_part o.part (λ none. (sits.idle none).3 fault)) sits.serves.ended served in
    rw is (performs_over (result_of ending) bits before after (text ++ z) consumed ext comes.0 comes.1)

pub took_sat : (ending : Ending) (bits : ℕ) (o : Opening) (read : List ℕ) (known : Option (List ℕ)) (was now : Moment)
    → Opens o known was.rest → Sits o ending bits read was now → ConsumesAtMost known now.rest 1048577
took_sat ending bits o read known was now opens sits = (
  o.text.items ++ sits.serves.bytes,
  consumes_both known was.rest now.rest o.text.items sits.serves.bytes opens.taken sits.serves.taken,
  omega (arith, length-append o.text.items sits.serves.bytes, sits.serves.few, opens.opening.few),
)
