-- The clocks of an operation are some, and few.
use Rattle.px_num.proofs.Basics.{ℕ, ◌≤◌, arith}
use Rattle.px_asm.proofs.Words.{cycles, IsGrid, IsLawful, Macro}

-- no operation takes more than 82 clocks
pub few_cycles : (op : Macro) (nx ny : ℕ) → IsGrid nx ny → IsLawful op 256 → cycles op nx ny ≤ 82
few_cycles op nx ny grid lawful = grind arith

pub some_cycles : (op : Macro) (bits nx ny : ℕ) → IsLawful op bits → 1 ≤ cycles op nx ny
some_cycles op bits nx ny lawful = grind arith
