use Rattle.px_frame.proofs.FinerLemmas.{common_pixels}
use Rattle.px_frame.proofs.ImageLemmas.{stored_refined}
use Rattle.px_frame.proofs.MeanLemmas.{means_refined}
use Rattle.px_frame.proofs.refinement_law.laws_of_refinement.Goals as goal

pub returns : goal.returns
returns c = record { pixels = common_pixels; means = means_refined; stored = stored_refined }
