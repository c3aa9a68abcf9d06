use Rattle.px_scene.proofs.TextWalkLemmas.{canonical_read}
use Rattle.px_scene.proofs.write.canonical_law.Goals as goal

pub returns : goal.returns
returns c = canonical_read
