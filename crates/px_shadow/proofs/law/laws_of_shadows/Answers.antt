use Rattle.px_shadow.proofs.ArrayLemmas.{grid_law, mask_law, shaded_law}
use Rattle.px_shadow.proofs.FitLemmas.{passes_lawful}
use Rattle.px_shadow.proofs.SightLemmas.{shadow_law}
use Rattle.px_shadow.proofs.law.laws_of_shadows.Goals as goal

pub returns : goal.returns
returns c = record {
  pixel = shadow_law;
  lawful = passes_lawful;
  shaded = shaded_law;
  grid = grid_law;
  masks = mask_law;
}
