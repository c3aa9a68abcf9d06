use Rattle.px_listing.proofs.WordLemmas.{AreReadTo}
use Rattle.px_listing.proofs.judge.numbers_of.Given as goal

abbrev pub invariant-loop-word : goal.invariant-loop-word
invariant-loop-word l = AreReadTo l.words l.numbers.items l.word-index
