-- One read after another, behind bytes that were read and answered, and the end of the output.
use Rattle.px_num.proofs.Basics.{◌≡◌, ℕ, ◌+◌, ◌-◌, ◌<◌, ◌≤◌, true, false, List, [], ◌∷◌, ◌++◌}
use Rattle.px_num.proofs.Basics.{length, take, refl, sym, ap, ◌∙◌, ◌⊎◌, inl, inr, append_assoc, append-nil}
use Rattle.px_num.proofs.Basics.{length-append}
use Rattle.px_num.proofs.Basics.{arith, Consumes, IsAtEnd, Keeps, Option, take-append-add, take_all, take_min, min}
use Rattle.px_num.proofs.Basics.{take-append-le}
use Rattle.px_io.specs.Counts.{Rose}
use Rattle.px_io.specs.Reports.{SinkState, Tells}
use Rattle.px_io.proofs.ToldLaws.{appends_kept, consumes_both, consumes_kept, consumes_none}
use Rattle.px_asked.specs.Asks.{Ask, Notes, all_given}
use Rattle.px_asked.proofs.AskLaws.{asked_both, asked_none, each_both, given-one}
use Rattle.px_debug.specs.Moves.{SessionView}
use Rattle.px_debug.specs.Catching.{Begun, Caught, IsOverBy, begun}
use Rattle.px_debug.specs.Prompts.{IsPrompt, Moment, Prompts}
use Rattle.px_debug.specs.Servings.{Answered, HasOutCause, HasRead, HasReadCause, HasServed, Serves}
use Rattle.px_debug.specs.Servings.{lines_in, seen}
use Rattle.px_debug.specs.Sessions.{Sitting, Stand, stand}
use Rattle.px_debug.specs.Turns.{EndsIn, Fed}
use Rattle.px_debug.specs.declared.serving.Ending.{Ending}
use Rattle.px_debug.specs.declared.session.Going.TheVariants as g
use Rattle.px_debug.specs.declared.serving.Ending.TheVariants as e

-- what counts of the bytes of a read
pub counted : (n k : ℕ) (bytes : List ℕ) → k ≡ min (length bytes) (n - 1) → take k bytes ≡ seen n bytes
counted n k bytes is = ap (λ i. take i bytes) (is ∙ omega arith) ∙ take_min (n - 1) bytes

pub nothing_counts : (n : ℕ) (text bytes : List ℕ) → bytes ≡ [] → text ++ seen n bytes ≡ text
nothing_counts n text bytes none = grind (arith, take_all, append-nil)

-- nothing was asked for
prompts_none : (bits : ℕ) (read : List ℕ) (n : ℕ) (was now : Moment) → now.asks ≡ was.asks → now.rest ≡ was.rest
    → Prompts bits read n was now
prompts_none bits read n was now asks rest = grind (arith, asked_none, consumes_none)

pub caught_begun : (bits : ℕ) (read : List ℕ) (n : ℕ) (was p : Moment) (held : List ℕ) → p.asks ≡ was.asks
    → p.rest ≡ was.rest → p.faults ≡ was.faults → p.at.out.faults ≡ was.at.out.faults
    → Fed g.More bits read was.at p.at held → Caught bits (begun was read n) n p held
unfolding prompts_none
caught_begun bits read n was p held asks rest calm_in calm_out fed = record {
  prompts = prompts_none bits read n was p asks rest;
  left = omega arith;
  seen = take_all {A = ℕ} (n - 1) [] (omega arith);
  fed = rw (append-nil read) fed;
  calm_in = calm_in;
  calm_out = calm_out;
}

-- the lines that were read before ended it, or a write failed in an answer to them or in finishing
finished_so : (P : Ending → Type 0) (result ending : Ending) → (result ≡ ending) ⊎ (result ≡ e.WriteFault)
    → P ending → P e.WriteFault → P result
finished_so P result ending (inl is) p q = rw is p
finished_so P result ending (inr is) p q = rw is q

pub served_begun : (ending last : Ending) (bits : ℕ) (read : List ℕ) (n : ℕ) (was now : Moment)
    → (ending ≡ last) ⊎ (ending ≡ e.WriteFault) → now.asks ≡ was.asks → now.rest ≡ was.rest → now.faults ≡ was.faults
    → HasRead last [] n now.rest → HasReadCause last was.faults now.faults
    → HasServed ending bits was.at now.at (lines_in read) → HasOutCause ending was.at.out.faults now.at.out.faults
    → IsOverBy ending bits (begun was read n) now
served_begun ending last bits read n was now which asks rest calm ended cause served out_cause = record {
  bytes = [];
  few = omega arith;
  taken = rw rest (consumes_none was.rest);
  ended = finished_so (λ r. HasRead r [] n now.rest) ending last which ended tt;
  served = rw (nothing_counts n read [] refl) served;
  cause = finished_so (λ r. HasReadCause r was.faults now.faults) ending last which cause calm;
  out_cause = out_cause;
  prompts = prompts_none bits read n was now asks rest;
}

-- one ask more
pub prompts_ask : (bits : ℕ) (b : Begun) (n : ℕ) (p : Moment) (held : List ℕ) (now : Moment) (bytes : List ℕ)
    → Caught bits b n p held → 0 < n → Notes p.asks now.asks p.at.out.written bytes → Consumes p.rest now.rest bytes
    → Prompts bits b.read b.more b.was now
prompts_ask bits b n p held now bytes caught some noted took =
    let one : Ask = record { told = p.at.out.written; bytes = bytes } in
    let before = caught.prompts in
    let front = all_given before.asks in
    record {
      asks = before.asks ++ one ∷ [];
      asked = asked_both b.was.asks p.asks now.asks before.asks (one ∷ []) before.asked noted;
      taken = rw (given-one before.asks one) (consumes_both b.was.rest p.rest now.rest front bytes before.taken took);
      prompt = each_both (IsPrompt bits b.was.at (length b.read + b.more)) b.read before.asks (one ∷ []) before.prompt (
        (
          caught.fed.went.answered.wrote.all,
          sym caught.fed.went.going,
          omega (arith, caught.left, some, length-append b.read front),
        ),
        tt,
      );
    }

-- whose bytes are answered
pub caught_fed : (bits : ℕ) (b : Begun) (n m : ℕ) (p q : Moment) (held kept bytes : List ℕ)
    → (caught : Caught bits b n p held) → 0 < m → n ≡ length bytes + m → Notes p.asks q.asks p.at.out.written bytes
    → Consumes p.rest q.rest bytes
    → Fed g.More bits ((b.read ++ all_given caught.prompts.asks) ++ bytes) b.was.at q.at kept → q.faults ≡ p.faults
    → q.at.out.faults ≡ p.at.out.faults → Caught bits b m q kept
unfolding prompts_ask
caught_fed bits b n m p q held kept bytes caught some count noted took fed calm_in calm_out =
    let asks = caught.prompts.asks in
    let one : Ask = record { told = p.at.out.written; bytes = bytes } in
    let given = given-one asks one in
    record {
      prompts = prompts_ask bits b n p held q bytes caught (omega (arith, count, some)) noted took;
      seen = take_all (b.more - 1) (all_given (asks ++ one ∷ []))
          (omega (arith, caught.left, count, some, ap length given, length-append (all_given asks) bytes));
      left = omega (arith, caught.left, count, ap length given, length-append (all_given asks) bytes);
      fed = rw (given, ← append_assoc b.read (all_given asks) bytes) fed;
      calm_in = calm_in ∙ caught.calm_in;
      calm_out = calm_out ∙ caught.calm_out;
    }

-- no more is asked for
stopped_by : (ending : Ending) (bits : ℕ) (b : Begun) (n : ℕ) (p now : Moment) (held bytes : List ℕ)
    → (caught : Caught bits b n p held) → 0 < n → length bytes ≤ n → Consumes p.rest now.rest bytes
    → HasRead ending (all_given caught.prompts.asks ++ bytes) b.more now.rest
    → HasServed ending bits b.was.at now.at (lines_in ((b.read ++ all_given caught.prompts.asks) ++ seen n bytes))
    → HasReadCause ending p.faults now.faults → HasOutCause ending p.at.out.faults now.at.out.faults
    → Prompts bits b.read b.more b.was now → IsOverBy ending bits b now
stopped_by ending bits b n p now held bytes caught some few took ended served cause out_cause prompts =
    let front = all_given caught.prompts.asks in
    let count : b.more - 1 ≡ length front + (n - 1) = omega (arith, caught.left, some) in
    let both : seen b.more (front ++ bytes) ≡ front ++ seen n bytes = rw count (take-append-add front bytes (n - 1)) in
    record {
      bytes = front ++ bytes;
      few = omega (arith, caught.left, few, length-append front bytes);
      taken = consumes_both b.was.rest p.rest now.rest front bytes caught.prompts.taken took;
      ended = ended;
      served = rw (both, ← append_assoc b.read front (seen n bytes)) served;
      cause = rw caught.calm_in at cause;
      out_cause = rw caught.calm_out at out_cause;
      prompts = prompts;
    }

-- since a read failed
pub stopped_fault : (bits : ℕ) (b : Begun) (n : ℕ) (p now : Moment) (held : List ℕ) → Caught bits b n p held → 0 < n
    → Keeps p.rest now.rest → now.at ≡ p.at → Rose p.faults now.faults → Prompts bits b.read b.more b.was now
    → IsOverBy e.ReadFault bits b now
stopped_fault bits b n p now held caught some kept same rose prompts =
    stopped_by e.ReadFault bits b n p now held [] caught some (omega arith)
    (consumes_kept p.rest p.rest now.rest [] (consumes_none p.rest) kept) tt
    (rw (nothing_counts n (b.read ++ all_given caught.prompts.asks) [] refl, same)
    (caught.fed.went.answered, sym caught.fed.went.going)) rose (ap (λ s. s.out.faults) same) prompts

-- or by what was read
ends_in : (ending : Ending) (n m old new : ℕ) (front bytes : List ℕ) (rest : Option (List ℕ)) → m ≡ length front + n
    → 0 < n → EndsIn ending n bytes → (bytes ≡ [] → IsAtEnd rest) → new ≡ old
    → HasRead ending (front ++ bytes) m rest × HasReadCause ending old new
ends_in e.Quit n m old new front bytes rest count some ends end calm = (tt, calm)
ends_in e.End n m old new front bytes rest count some ends end calm =
    ((omega (arith, length-append front bytes, ap length ends, count, some), end ends), calm)
ends_in e.Long n m old new front bytes rest count some ends end calm =
    (omega (arith, length-append front bytes, ends, count), calm)
ends_in e.ReadFault n m old new front bytes rest count some ends end calm = absurd ends
ends_in e.WriteFault n m old new front bytes rest count some ends end calm = (tt, calm)

pub stopped_in : (ending : Ending) (bits : ℕ) (b : Begun) (n : ℕ) (p now : Moment) (held bytes : List ℕ)
    → (caught : Caught bits b n p held) → 0 < n → length bytes ≤ n → Consumes p.rest now.rest bytes
    → (bytes ≡ [] → IsAtEnd now.rest) → EndsIn ending n bytes
    → HasServed ending bits b.was.at now.at (lines_in ((b.read ++ all_given caught.prompts.asks) ++ seen n bytes))
    → now.faults ≡ p.faults → HasOutCause ending p.at.out.faults now.at.out.faults
    → Prompts bits b.read b.more b.was now
    → IsOverBy ending bits b now
stopped_in ending bits b n p now held bytes caught some few took end ends served calm out_cause prompts =
    let found = ends_in ending n b.more p.faults now.faults (all_given caught.prompts.asks) bytes now.rest caught.left
    some ends end calm in
    stopped_by ending bits b n p now held bytes caught some few took found.0 served found.1 out_cause prompts

-- or nothing can be read
pub stopped_full : (bits : ℕ) (b : Begun) (n : ℕ) (p : Moment) (held : List ℕ) → n ≡ 0 → Caught bits b n p held
    → IsOverBy e.Long bits b p
stopped_full bits b n p held none caught = grind (arith)

-- the output is finished, or a write fails in that
pub finished_ok : (from : Stand) (session : SessionView) (work : ℕ) (a b : SinkState) (to : Sitting)
    → Answered false from (stand session work a) to → Keeps a.written b.written → Tells b.finished true
    → Answered true from (stand session work b) to
finished_ok from session work a b to answered kept end = grind (arith, appends_kept)

pub finished_err : (from : Stand) (session : SessionView) (work : ℕ) (a b : SinkState) (to : Sitting)
    → Answered false from (stand session work a) to → Keeps a.written b.written → b.finished ≡ a.finished
    → Answered false from (stand session work b) to
finished_err from session work a b to answered kept same = grind (arith, appends_kept)

-- where there was no line
pub unasked : (ending : Ending) (bits n : ℕ) (was now : Moment) → (ending ≡ e.End) ⊎ (ending ≡ e.WriteFault)
    → IsAtEnd was.rest → 0 < n → now.asks ≡ was.asks → now.rest ≡ was.rest → now.faults ≡ was.faults
    → HasServed ending bits was.at now.at (lines_in []) → HasOutCause ending was.at.out.faults now.at.out.faults
    → (serves : Serves ending bits [] n was now) × (serves.bytes ≡ []) × (serves.prompts.asks ≡ [])
unfolding served_begun prompts_none
unasked ending bits n was now which end some asks rest calm served out_cause = (
  served_begun ending e.End bits [] n was now which asks rest calm (some, rw rest end) calm served out_cause,
  refl,
  refl,
)

-- what was read into a buffer
pub read_is : (n : ℕ) (buf ys : List ℕ) → n ≤ length buf → take n (buf ++ ys) ≡ take n buf
read_is n buf ys bound = take-append-le n buf ys bound
