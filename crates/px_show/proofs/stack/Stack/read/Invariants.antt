use Rattle.px_num.proofs.Basics.{map, take}
use Rattle.px_show.proofs.Words.{IsStackOf, names_of, parts_of, token_of}
use Rattle.px_show.proofs.stack.Stack.read.Given as goal

abbrev pub invariant-loop-token : goal.invariant-loop-token
invariant-loop-token l = IsStackOf (names_of l.solids) l.stack (parts_of (map token_of (take l.token-index l.tokens)))
