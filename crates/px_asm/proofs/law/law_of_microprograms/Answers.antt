use Rattle.std.proofs.Common.{rules}
use Rattle.px_asm.proofs.PlaceLemmas.{have_their_places}
use Rattle.px_asm.proofs.ProgramLemmas.{micros_leave_the_meaning, micros_leave_the_meanings}
use Rattle.px_asm.proofs.law.law_of_microprograms.Goals as goal

pub returns : goal.returns
returns c = search (rules, micros_leave_the_meaning, micros_leave_the_meanings, have_their_places)
