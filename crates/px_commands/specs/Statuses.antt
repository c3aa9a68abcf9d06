-- The codes of the statuses. Clauses of public calls stand on them.
use Rattle.std.specs.Prelude.{ℕ}
use Rattle.px_commands.specs.declared.status.Status.{Status}
use Rattle.px_commands.specs.declared.status.Status.TheVariants as s

abbrev pub code : Status → ℕ
code s.Done = 0
code s.Usage = 2
code s.Malformed = 3
code s.Limit = 4
code s.ReadFault = 5
code s.WriteFault = 6
code (s.Memory _) = 7
