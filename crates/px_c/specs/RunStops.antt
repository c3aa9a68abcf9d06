-- The answer to a command that does not do its work. Only proofs and private functions stand on it.
use Rattle.std.specs.Prelude.{⊤}
use Rattle.px_num.specs.Want.{want}
use Rattle.px_show.specs.declared.fault.TextFault.TheVariants as f
use Rattle.px_commands.specs.declared.stop.Stop.{Stop}
use Rattle.px_commands.specs.declared.stop.Stop.TheVariants as s
use Rattle.px_c.specs.declared.answer.Answer.{Answer}
use Rattle.px_c.specs.declared.status.TheConstants.{USAGE}
use Rattle.px_c.specs.Answers as text
use Rattle.px_c.specs.Answers.{nothing}
use Rattle.px_c.specs.RunAnswers.{refusal_answer}

-- no read and no write failed
abbrev pub IsCalm : Stop → Type 0
IsCalm s.ReadFault = ⊥
IsCalm s.WriteFault = ⊥
IsCalm stop = ⊤

abbrev pub stop_answer : Stop → Answer
stop_answer s.Usage = record { status = USAGE; found = nothing }
stop_answer (s.Refused reason) = refusal_answer reason
stop_answer stop = text.refused_answer (f.Memory want)
