use Rattle.px_num.proofs.Basics.{◌≡◌, ◌++◌, length, map}
use Rattle.px_show.proofs.Words.{token_of, tokens_in}
use Rattle.px_show.proofs.token.add_tokens.Given as goal

abbrev pub invariant-loop-token : goal.invariant-loop-token
invariant-loop-token l =
    map token_of l.tokens.items ++ tokens_in l.version l.rest ≡ map token_of l.initial.tokens.items
    ++ tokens_in l.version l.word

abbrev pub decreases-loop-token : goal.decreases-loop-token
decreases-loop-token l = length l.rest
