-- What a call answers that finds the machine, or its micros.
use Rattle.px_num.proofs.Basics.{◌≡◌, inl, inr, Option, None, refl}
use Rattle.px_listing.specs.Listings.{ListingView}
use Rattle.px_state.specs.Refusals.{IsRefusedBy}
use Rattle.px_state.specs.declared.fault.StateFault.{StateFault}
use Rattle.px_c.specs.declared.answer.Answer.{Answer}
use Rattle.px_c.specs.Answers.{Answers}
use Rattle.px_c.specs.StateAnswers.{state_refused, unless_faulty}

-- a fault that says that memory ran out, or the expected refusal
pub faulty : (refusal : Option StateFault) (l : ListingView) (fault : StateFault) → IsRefusedBy fault refusal
    → Answers (unless_faulty refusal l) (state_refused fault)
faulty refusal l fault (inl memory) = rw memory (inr refl)
faulty refusal l fault (inr is) = rw is (inl refl)

pub faultless : (refusal : Option StateFault) (l : ListingView) (answer : Answer) → refusal ≡ None
    → Answers (unless_faulty None l) answer → Answers (unless_faulty refusal l) answer
faultless refusal l answer none answers = rw none answers
