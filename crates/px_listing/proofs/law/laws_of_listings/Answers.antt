use Rattle.px_listing.proofs.TextLemmas.{read_back}
use Rattle.px_listing.proofs.law.laws_of_listings.Goals as goal

pub returns-clause-read_back : goal.returns-clause-read_back
returns-clause-read_back c = read_back
