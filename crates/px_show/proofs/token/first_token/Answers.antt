use Rattle.px_num.proofs.Basics.{arith}
use Rattle.std.proofs.lemmas.List.Folds.{length-prefix_len}
use Rattle.px_show.proofs.TokenLemmas.{first_name}
use Rattle.px_show.proofs.token.first_token.Goals as goal

pub returns-then-is_name_byte-clause-some : goal.returns-then-is_name_byte-clause-some
returns-then-is_name_byte-clause-some c = grind (arith, first_name, length-prefix_len)
