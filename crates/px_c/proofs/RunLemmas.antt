-- What a command comes to, as an answer.
use Rattle.px_num.proofs.Basics.{arith}
use Rattle.px_num.proofs.Basics.{ℕ, ◌≡◌, inl, inr, List, [], length, Bool, true, false, Option, Some, None, Ok}
use Rattle.px_num.proofs.Basics.{Err, refl, ap, subst, if◌then◌else◌, not, nat_lt, Appends}
use Rattle.px_commands.specs.declared.command.Command.{Command}
use Rattle.px_commands.specs.declared.command.Command.TheVariants as c
use Rattle.px_draw.specs.Debugs.{admitted, all_sitting, answered, debugged}
use Rattle.px_commands.specs.declared.refusal.Refusal.{Refusal}
use Rattle.px_commands.specs.declared.stop.Stop.{Stop}
use Rattle.px_commands.specs.declared.stop.Stop.TheVariants as s
use Rattle.px_commands.specs.Ends.{Ends, Input}
use Rattle.px_commands.specs.Outcomes.{Outcome, cut, done, output, refused, refused_past, unless_refused, usage}
use Rattle.px_commands.specs.Refusals.{short_of_bits, too_long}
use Rattle.px_commands.specs.Results.{Meets}
use Rattle.px_draw.specs.Runs.{Leaves, Performs, commanded}
use Rattle.px_c.specs.declared.answer.Answer.{Answer}
use Rattle.px_c.specs.Answers.{Answers}
use Rattle.px_c.specs.RunAnswers.{bytes_answer, outcome_answer, refusal_answer}
use Rattle.px_c.specs.RunStops.{stop_answer}

-- what a session answers where nothing is refused
sitting_whole : (early late short : Bool) (why : Option Refusal) (need : ℕ) (crowd : Option ℕ)
    (front whole bytes : List ℕ)
    → (if early then refused too_long
    else unless_refused why (if short then refused (short_of_bits need)
    else refused_past crowd (if late then cut front too_long else done whole))) ≡ done bytes → whole ≡ bytes
sitting_whole true late short why need crowd front whole bytes is = absurd cc
sitting_whole false late short (Some reason) need crowd front whole bytes is = absurd cc
sitting_whole false late true None need crowd front whole bytes is = absurd cc
sitting_whole false late false None need (Some count) front whole bytes is = absurd cc
sitting_whole false true false None need None front whole bytes is = absurd cc
sitting_whole false false false None need None front whole bytes is = cc

debugged_whole : (bits : ℕ) (text bytes : List ℕ) → debugged text bits ≡ done bytes
    → (all_sitting bits text).said ≡ bytes
unfolding debugged admitted answered
debugged_whole bits text bytes is = grind (arith, sitting_whole, not, nat_lt)

-- with Ok the output gained what the command answers
gains : (command : Option Command) (bits : ℕ) (u : Unit {0}) (input : Input) (before after : Ends)
    → Meets (Ok u) (commanded command input.bytes bits) → Leaves command (Ok u) bits input before after
    → Appends before.out.written after.out.written (output (commanded command input.bytes bits))
gains None bits u input before after meets leaves = absurd cc
gains (Some (c.Make work)) bits u input before after meets leaves = leaves.wrote.all
gains (Some c.Debug) bits u input before after meets leaves =
    subst (λ bytes. Appends before.out.written after.out.written bytes)
    (debugged_whole bits input.bytes (output (debugged input.bytes bits)) meets) leaves.answered.wrote.all
gains (Some c.Shadow) bits u input before after meets leaves = leaves.wrote.all
gains (Some (c.Sample n)) bits u input before after meets leaves = leaves.wrote.all
gains (Some c.Play) bits u input before after meets leaves = leaves.wrote.all

-- over a text that is reported, into an output that was empty, that is all of it
pub comes_whole : (command : Option Command) (bits : ℕ) (u : Unit {0}) (before after : Ends) (text bytes : List ℕ)
    → Performs (Ok u) command bits before after → before.rest ≡ Some text → before.out.written ≡ Some []
    → after.out.written ≡ Some bytes → commanded command text bits ≡ done bytes
comes_whole command bits u before after text bytes performs rest empty now = grind (arith, gains)

-- and where it does not come, that is for the reason of the text, or a fault
pub comes_not : (command : Option Command) (bits : ℕ) (stop : Stop) (before after : Ends) (text : List ℕ)
    → Performs (Err stop) command bits before after → before.rest ≡ Some text
    → Meets (Err stop) (commanded command text bits)
comes_not command bits stop before after text performs rest = grind (arith)

pub answers_done : (room : ℕ) (o : Outcome) (bytes : List ℕ) (answer : Answer) → o ≡ done bytes
    → answer ≡ bytes_answer room (length bytes) → Answers (outcome_answer room o) answer
answers_done room o bytes answer is same = rw is (inl same)

pub answers_stop : (room : ℕ) (o : Outcome) (stop : Stop) → Meets (Err stop) o
    → Answers (outcome_answer room o) (stop_answer stop)
answers_stop room o s.Usage meets = rw meets (inl refl)
answers_stop room usage (s.Refused reason) meets = absurd cc
answers_stop room (refused why) (s.Refused reason) meets =
    let is : reason ≡ why = cc in inl (ap refusal_answer is)
answers_stop room (cut bytes why) (s.Refused reason) meets =
    let is : reason ≡ why = cc in inl (ap refusal_answer is)
answers_stop room (done bytes) (s.Refused reason) meets = absurd cc
answers_stop room o s.ReadFault meets = inr refl
answers_stop room o s.WriteFault meets = inr refl
answers_stop room o (s.Memory _) meets = inr refl
