use Rattle.px_num.proofs.Basics.{arith, eq-eqb, nat_tests, common_steps}
use Rattle.px_asked.proofs.PartLemmas.{not_feed, seen_byte, seen_feed}
use Rattle.px_asked.proofs.search.Search.pass.Goals as goal

pub returns-then-byte-ne10-clause-seen : goal.returns-then-byte-ne10-clause-seen
returns-then-byte-ne10-clause-seen c =
    λ on. seen_byte c.args.self.now c.args.text.now c.requires.seen c.requires.more (not_feed _ c.if-byte-ne10.true)

pub returns-clause-seen : goal.returns-clause-seen
returns-clause-seen c = grind (arith, nat_tests, common_steps, seen_feed, eq-eqb)
