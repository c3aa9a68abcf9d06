-- What a call answers, step by step.
use Rattle.px_num.proofs.Basics.{ℕ, ◌≡◌, ◌⊎◌, ◌<◌, ◌≤◌, inl, inr, true, false, Option, Some, None, refl, arith, nat_lt}
use Rattle.px_num.proofs.Basics.{nat_tests}
use Rattle.px_num.specs.Want.{want}
use Rattle.px_show.specs.Judged.{SceneFault}
use Rattle.px_show.specs.declared.fault.TextFault.TheVariants as f
use Rattle.px_c.specs.declared.answer.Answer.{Answer}
use Rattle.px_c.specs.declared.found.Found.{Found}
use Rattle.px_c.specs.declared.status.TheConstants.{NO_ROOM, OK}
use Rattle.px_c.specs.Answers.{Answers, refused_answer, answer_unless_refused, within_room}

-- a fault that says that memory ran out, or the expected refusal
pub refuses : (refusal : Option SceneFault) (due : Answer) (fault : SceneFault)
    → (fault ≡ f.Memory want) ⊎ (refusal ≡ Some fault)
    → Answers (answer_unless_refused refusal due) (refused_answer fault)
refuses refusal due fault (inl none) = rw none (inr refl)
refuses refusal due fault (inr is) = rw is (inl refl)

pub accepts : (refusal : Option SceneFault) (due answer : Answer) → refusal ≡ None → Answers due answer
    → Answers (answer_unless_refused refusal due) answer
accepts refusal due answer none answers = rw none answers

pub roomy : (room due : ℕ) (found : Found) → due ≤ room → within_room room due found
    ≡ record { status = OK; found = found }
roomy room due found enough = grind (arith, nat_lt, false, nat_tests)

pub scant : (room due : ℕ) (found : Found) → room < due
    → within_room room due found ≡ record { status = NO_ROOM; found = record found { room = due } }
scant room due found short = grind (arith, nat_lt, true, nat_tests)
