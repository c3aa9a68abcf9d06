use Rattle.px_listing.proofs.AcceptedLemmas.{read_is_lawful}
use Rattle.px_listing.proofs.read.read_listing.Goals as goal

pub returns-clause-lawful : goal.returns-clause-lawful
returns-clause-lawful c = read_is_lawful c.args.bits c.args.text.now c.read_text.result c.read_text.ensures.ok
