-- What a call answers that makes clocks of a state. Clauses of public calls stand on it.
use Rattle.std.specs.Prelude.{ℕ, ◌==◌, pos, List, length, nat_lt, if◌then◌else◌, Option, Some, None}
use Rattle.px_state.specs.Clocking.{first_stray}
use Rattle.px_state.specs.Words.{room_of}
use Rattle.px_c.specs.Answers.{nothing}
use Rattle.px_c.specs.declared.answer.Answer.{Answer}
use Rattle.px_c.specs.declared.status.TheConstants.{BITS, NO_GRID, NO_MICRO, NO_ROOM, OK}

-- the exponent of a side that a grid may have
abbrev pub exponent_of_side : (side : ℕ) → Option ℕ
exponent_of_side side =
    if side == 2 then Some 1 else if side == 4 then Some 2 else if side == 8 then Some 3 else
    if side == 16 then Some 4 else if side == 32 then Some 5 else if side == 64 then Some 6 else
    if side == 128 then Some 7 else if side == 256 then Some 8 else if side == 512 then Some 9 else None

-- each word must be a micro
abbrev pub unless_stray : Option ℕ → (count : ℕ) → Answer
unless_stray (Some stray) count = record { status = NO_MICRO; found = record nothing { number = pos stray } }
unless_stray None count = record { status = OK; found = record nothing { clocks = count } }

-- and before that the words must have room for a state of the grid
abbrev pub answer_on : (room nx ny : ℕ) → (micros : List ℕ) → Answer
answer_on room nx ny micros =
    let due = room_of BITS nx ny in
    if nat_lt room due then record { status = NO_ROOM; found = record nothing { room = due } } else
    unless_stray (first_stray BITS micros) (length micros)

abbrev pub on_grid : (room : ℕ) → (nx ny : Option ℕ) → (micros : List ℕ) → Answer
on_grid room (Some nx) (Some ny) micros = answer_on room nx ny micros
on_grid room (Some nx) None micros = record { status = NO_GRID; found = nothing }
on_grid room None ny micros = record { status = NO_GRID; found = nothing }

-- `pxplanes_clocks`, in a buffer of so many words
abbrev pub clocks_answer : (room grid_width grid_height : ℕ) → (micros : List ℕ) → Answer
clocks_answer room grid_width grid_height micros =
    on_grid room (exponent_of_side grid_width) (exponent_of_side grid_height)
    micros
