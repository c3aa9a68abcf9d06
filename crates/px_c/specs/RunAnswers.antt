-- What a run of the program's words answers. Clauses of public calls stand on it.
use Rattle.std.specs.Prelude.{ℕ, List, length, nat_lt, if◌then◌else◌, Option}
use Rattle.px_text.specs.Text.{words_in}
use Rattle.px_commands.specs.declared.command.Command.{Command}
use Rattle.px_commands.specs.Commands.{command_of, needs_wide_pixels}
use Rattle.px_commands.specs.declared.refusal.Refusal.{Refusal}
use Rattle.px_commands.specs.declared.refusal.Refusal.TheVariants as r
use Rattle.px_commands.specs.Outcomes.{Outcome, cut, done, refused, usage}
use Rattle.px_draw.specs.Runs.{commanded}
use Rattle.px_c.specs.declared.answer.Answer.{Answer}
use Rattle.px_c.specs.declared.status.TheConstants.{BITS, NO_ROOM, OK, USAGE, WIDE_BITS}
use Rattle.px_c.specs.Answers.{limit_answer, malformed_answer, nothing}
use Rattle.px_c.specs.Numbers.{limit_number}

-- how many bits the pixels of a command have
abbrev pub pixel_bits_of : Option Command → ℕ
pixel_bits_of command = if needs_wide_pixels command then WIDE_BITS else BITS

-- what a command makes of a text
abbrev pub outcome_of : Option Command → (text : List ℕ) → Outcome
outcome_of command text = commanded command text (pixel_bits_of command)

-- and what the command of some words makes of it
abbrev pub run_outcome : (text words : List ℕ) → Outcome
run_outcome text words = outcome_of (command_of (words_in words)) text

-- the answer to a refusal: the first bad line, and why, or what was found past a limit
abbrev pub refusal_answer : Refusal → Answer
refusal_answer (r.Malformed line cause) = malformed_answer line cause
refusal_answer (r.Limit line kind found) = limit_answer line (limit_number kind) found

-- so many bytes are found, where a buffer of so much room has enough of it
abbrev pub bytes_answer : (room due : ℕ) → Answer
bytes_answer room due =
    record { status = if nat_lt room due then NO_ROOM else OK; found = record nothing { room = due } }

-- the answer to an outcome, in a buffer of so much room
abbrev pub outcome_answer : (room : ℕ) → Outcome → Answer
outcome_answer room usage = record { status = USAGE; found = nothing }
outcome_answer room (refused reason) = refusal_answer reason
outcome_answer room (cut bytes reason) = refusal_answer reason
outcome_answer room (done bytes) = bytes_answer room (length bytes)

-- `pxplanes_run`
abbrev pub run_answer : (text words : List ℕ) → (room : ℕ) → Answer
run_answer text words room = outcome_answer room (run_outcome text words)
