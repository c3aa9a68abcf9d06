-- What a call answers that finds the machine, its micros or its operations, of a scene or of a listing. Clauses
-- of public calls stand on it.
use Rattle.std.specs.Prelude.{◌≡◌, ℕ, ◌+◌, ◌^◌, ◌<◌, ◌≤◌, List, length, Option, Some, None}
use Rattle.px_array.specs.declared.micro.Micro.{Micro}
use Rattle.px_listing.specs.Listings.{ListingView}
use Rattle.px_listing.specs.Reading.{ListFault}
use Rattle.px_show.specs.declared.fault.TextFault.TheVariants as text_fault
use Rattle.px_state.specs.Courses.{IsNextBroadcast, total_of_listing}
use Rattle.px_state.specs.Packing.{packed}
use Rattle.px_state.specs.Refusals.{course_of, micros_refusal, operations_refusal, state_refusal}
use Rattle.px_state.specs.Words.{row_words}
use Rattle.px_state.specs.declared.fault.StateFault.{StateFault}
use Rattle.px_state.specs.declared.fault.StateFault.TheVariants as f
use Rattle.px_c.specs.Answers.{limit_answer, malformed_answer, nothing, refused_answer, text_fault_of}
use Rattle.px_c.specs.Numbers.{list_number}
use Rattle.px_c.specs.declared.answer.Answer.{Answer}
use Rattle.px_c.specs.declared.state.State.{State}
use Rattle.px_c.specs.declared.status.TheConstants.{BITS, NO_CLOCK, NO_OPERATION, NO_ROOM, OK}

-- the refusal of a listing: its first bad line, and why, or what it found past a limit
abbrev pub list_refused : ListFault → Answer
list_refused (text_fault.Malformed line cause) = malformed_answer line cause
list_refused (text_fault.Limit line limit found) = limit_answer line (list_number limit) found
list_refused (text_fault.Memory m) = refused_answer (text_fault.Memory m)

-- why there is no state, or there are no micros or operations: the text, its clocks, its operations, or too little room
abbrev pub state_refused : StateFault → Answer
state_refused (f.Scene fault) = refused_answer fault
state_refused (f.Job fault) = refused_answer (text_fault_of fault)
state_refused (f.Listing fault) = list_refused fault
state_refused (f.NoClock clocks) = record { status = NO_CLOCK; found = record nothing { clocks = clocks } }
state_refused (f.NoOperation operations) =
    record { status = NO_OPERATION; found = record nothing { operations = operations } }
state_refused (f.NoRoom room) = record { status = NO_ROOM; found = record nothing { room = room } }
state_refused (f.Memory m) = refused_answer (text_fault.Memory m)

-- what a text broadcasts is found, where nothing is refused
abbrev pub unless_faulty : Option StateFault → ListingView → Answer
unless_faulty (Some fault) l = state_refused fault
unless_faulty None l =
    record { status = OK; found = record nothing { operations = length l.macros; clocks = total_of_listing l } }

-- `pxplanes_state`, in a buffer of so many words
abbrev pub state_answer : List ℕ → (clock room : ℕ) → Answer
state_answer text clock room = unless_faulty (state_refusal BITS text clock room) (course_of text)

-- `pxplanes_micros`: so many from a clock on
abbrev pub micros_answer : List ℕ → (first count : ℕ) → Answer
micros_answer text first count = unless_faulty (micros_refusal BITS text first count) (course_of text)

-- `pxplanes_course`: so many from an operation on
abbrev pub course_answer : List ℕ → (first count : ℕ) → Answer
course_answer text first count = unless_faulty (operations_refusal BITS text first count) (course_of text)

-- a broadcast comes next: that cycle of that operation, and its packed micro
pub record IsComing (l : ListingView) (clock operation cycle word : ℕ) : Type 0 where
  pub micro : Micro
  pub is : IsNextBroadcast l clock operation cycle micro
  pub word_is : word ≡ packed micro

-- none comes: the operation is the number of all
pub record IsOver (l : ListingView) (operation cycle word : ℕ) : Type 0 where
  pub operation_is : operation ≡ length l.macros
  pub cycle_is : cycle ≡ 0
  pub word_is : word ≡ 0

-- what comes with the words of a state
pub record TellsState (l : ListingView) (clock : ℕ) (s : State) : Type 0 where
  pub columns : s.grid_width ≡ 2 ^ l.nx
  pub rows : s.grid_height ≡ 2 ^ l.ny
  pub row : s.words_per_row ≡ row_words l.nx
  pub bits_is : s.bits ≡ BITS
  pub levels : s.levels ≡ l.nx + l.ny
  pub clock_is : s.clock ≡ clock
  pub clocks : s.clocks ≡ total_of_listing l
  pub next : clock < total_of_listing l → IsComing l clock s.operation s.operation_clock s.next_micro
  pub end : total_of_listing l ≤ clock → IsOver l s.operation s.operation_clock s.next_micro

-- and where there is none
abbrev pub no_state : State
no_state = record {
  grid_width = 0;
  grid_height = 0;
  words_per_row = 0;
  bits = 0;
  levels = 0;
  clock = 0;
  clocks = 0;
  operation = 0;
  operation_clock = 0;
  next_micro = 0;
}
