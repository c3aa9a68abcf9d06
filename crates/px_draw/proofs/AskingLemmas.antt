-- Each line is answered before more is asked for.
use Rattle.std.proofs.Common.{rules}
use Rattle.px_num.proofs.Basics.{ℕ, ◌≡◌, ◌+◌, ◌-◌, ◌++◌, List, [], length, true, false, Option, Some, None, refl, ap}
use Rattle.px_num.proofs.Basics.{◌∙◌, arith, is_some, length-append, take_all, Consumes}
use Rattle.px_io.proofs.ToldLaws.{appends_none, consumes_both}
use Rattle.px_asked.specs.Asks.{Ask, EachTime, all_given}
use Rattle.px_asked.proofs.AskLaws.{asked_both, each_both, each_so, given-append}
use Rattle.px_asked.specs.Lines.{whole_lines}
use Rattle.px_asked.specs.Listenings.{IsSilent, ListenedTo, Listens}
use Rattle.px_asked.specs.declared.reading.Opening.{Opening}
use Rattle.px_scene.specs.Scenes.{SceneView}
use Rattle.px_debug.specs.Prompts.{IsPrompt, Moment}
use Rattle.px_debug.specs.Servings.{seen}
use Rattle.px_debug.specs.Sessions.{Stand, session_opened, sitting}
use Rattle.px_debug.specs.declared.serving.Ending.{Ending}
use Rattle.px_draw.specs.Askings.{AnswersInTime, IsInTime, due}
use Rattle.px_draw.specs.Debugs.{command_text, has_part, whole_sitting}
use Rattle.px_draw.specs.Sittings.{Opens, Sits, more_than}
use Rattle.px_draw.proofs.ServedLemmas.{Begins, holds, no_part}

-- nothing must be written while no scene part is whole, and after one the answers to the lines after it
none_due : (bits : ℕ) (text : List ℕ) → has_part text ≡ false → due bits text ≡ []
unfolding due
none_due bits text none = rw none refl

answers_due : (bits : ℕ) (text : List ℕ) → has_part text ≡ true → due bits text ≡ (whole_sitting bits text).said
unfolding due
answers_due bits text part = rw part refl

silent_due : (bits : ℕ) (w told : Option (List ℕ)) (text : List ℕ) → IsSilent 1048577 w told text
    → IsInTime bits w told text
silent_due bits w told text silent = grind (arith, no_part, none_due, appends_none)

prompt_due : (bits n : ℕ) (o : Opening) (scene : SceneView) (read : List ℕ) (was : Stand) (told : Option (List ℕ))
    (given : List ℕ) → Begins bits o scene read → o.part ≡ Some n → was.session ≡ session_opened scene
    → IsPrompt bits was (length read + more_than o.text.items) told (read ++ given)
    → IsInTime bits was.out.written told (o.text.items ++ given)
prompt_due bits n o scene read was told given begins part start prompt =
    let t = o.text.items ++ given in
    let held = holds bits o scene read begins given t (λ none. absurd (cc)) refl in
    let whole : has_part t ≡ true = held.whole ∙ ap is_some part in
    let all : seen (more_than o.text.items) given ≡ given =
    take_all (more_than o.text.items - 1) given (omega (arith, prompt.2, length-append read given)) in
    let here : read ++ given ≡ command_text t = rw (begins.is.commands, held.behind, all) refl in
    let same : sitting bits was.session (whole_lines (read ++ given)) ≡ whole_sitting bits t =
    rw (start, here, held.scene) refl in
    (rw (answers_due bits t whole) (rw same at prompt.0), λ part. (held.admits, rw same at prompt.1))

-- a scene part was read
pub answers_listened : (bits : ℕ) (a b : Option (List Ask)) (r s w : Option (List ℕ)) (text : List ℕ)
    → Consumes r s text → Listens 1048577 a b w text → AnswersInTime bits a b r s w
answers_listened bits a b r s w text took listens = record {
  asks = listens.asks;
  asked = listens.asked;
  taken = rw listens.given took;
  in_time = each_so (IsSilent 1048577 w) (IsInTime bits w) [] [] listens.asks
      (λ told given silent. silent_due bits w told given silent) listens.silent;
}

pub answers_unread : (bits : ℕ) (a b : Option (List Ask)) (r s w : Option (List ℕ)) → ListenedTo 1048577 a b w r s
    → AnswersInTime bits a b r s w
answers_unread bits a b r s w (text, took, listens) = answers_listened bits a b r s w text took listens

-- and lines behind it were answered
prompted : (part : Option ℕ) (ending : Ending) (bits : ℕ) (o : Opening) (scene : SceneView) (read : List ℕ)
    (was now : Moment) → o.part ≡ part → Begins bits o scene read → was.at.session ≡ session_opened scene
    → (sits : Sits o ending bits read was now)
    → EachTime (IsInTime bits was.at.out.written) o.text.items sits.serves.prompts.asks
prompted None ending bits o scene read was now is begins start sits = rw (sits.idle is).1 tt
prompted (Some n) ending bits o scene read was now is begins start sits = search (rules, each_so, length, prompt_due)

pub answers_sat : (ending : Ending) (bits : ℕ) (o : Opening) (scene : SceneView) (read : List ℕ)
    (a : Option (List Ask)) (r : Option (List ℕ)) (was now : Moment) → Begins bits o scene read
    → Opens o r was.rest → Listens 1048577 a was.asks was.at.out.written o.text.items
    → was.at.session ≡ session_opened scene → Sits o ending bits read was now
    → AnswersInTime bits a now.asks r now.rest was.at.out.written
answers_sat ending bits o scene read a r was now begins opens listens start sits =
    let first = answers_listened bits a was.asks r was.rest was.at.out.written o.text.items opens.taken listens in
    let ys = sits.serves.prompts.asks in
    record {
      asks = listens.asks ++ ys;
      asked = asked_both a was.asks now.asks listens.asks ys listens.asked sits.serves.prompts.asked;
      taken = rw (given-append listens.asks ys) (consumes_both r was.rest now.rest (all_given listens.asks)
          (all_given ys) (rw listens.given opens.taken) sits.serves.prompts.taken);
      in_time = each_both (IsInTime bits was.at.out.written) [] listens.asks ys (each_so
          (IsSilent 1048577 was.at.out.written) (IsInTime bits was.at.out.written) [] [] listens.asks
          (λ told given silent. silent_due bits was.at.out.written told given silent) listens.silent)
          (rw listens.given (prompted o.part ending bits o scene read was now refl begins start sits));
    }
