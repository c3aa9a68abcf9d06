use Rattle.px_num.proofs.Basics.{◌-◌, length}
use Rattle.px_asked.specs.Searches.{HasSeen}
use Rattle.px_asked.proofs.search.Search.find.Given as goal

abbrev pub invariant-loop-self : goal.invariant-loop-self
invariant-loop-self l = HasSeen l.self l.text

abbrev pub decreases-loop-self : goal.decreases-loop-self
decreases-loop-self l = length l.text - l.self.at
