use Rattle.px_listing.proofs.Words.{listing_view_of, now_of}
use Rattle.px_listing.proofs.ReadLemmas.{read_next}
use Rattle.px_listing.proofs.read.ReadingDrafting.add_line.Goals as goal

pub returns-clause-says : goal.returns-clause-says
returns-clause-says c before so =
    rw (← c.as_slice.ensures.value)
    (read_next c.add_words.result c.args.self.now.bits (listing_view_of c.args.self.now.draft)
    (listing_view_of c.add_words.new.self) before (now_of c.as_slice.result.now) so c.add_words.ensures.taken
    (c.add_words.ensures.keeps _ so.1.keeps))
