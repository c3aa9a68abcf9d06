use Rattle.px_num.proofs.Basics.{◌∙◌, sym}
use Rattle.px_listing.specs.Drafts.{listing_view_of}
use Rattle.px_listing.proofs.ReadLemmas.{kept_more}
use Rattle.px_listing.proofs.draft.Draft.add.Goals as goal

pub returns-clause-keeps : goal.returns-clause-keeps
returns-clause-keeps c count keeps =
    kept_more c.args.bits count (listing_view_of c.args.self.now) (listing_view_of c.take.new.self) _
    (sym c.limit_of.ensures ∙ c.in_default.is) c.in_ok-entry.ensures.opened c.in_ok-take.ensures.taken keeps
