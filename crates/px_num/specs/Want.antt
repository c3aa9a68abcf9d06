-- Out of memory as a value of clauses, of which there is one. Clauses of public calls stand on it.
use Rattle.px_num.specs.declared.memory.Memory.{Memory}

-- what says that memory was asked for and not given
abbrev pub want : Memory
want = record { refused = tt }
