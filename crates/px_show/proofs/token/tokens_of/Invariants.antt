use Rattle.px_num.proofs.Basics.{◌≡◌, map, take}
use Rattle.px_show.proofs.Words.{now_of, token_of, tokens_of}
use Rattle.px_show.proofs.token.tokens_of.Given as goal

abbrev pub invariant-loop-word : goal.invariant-loop-word
invariant-loop-word l = map token_of l.tokens.items ≡ tokens_of l.version (now_of (take l.word-index l.words))
