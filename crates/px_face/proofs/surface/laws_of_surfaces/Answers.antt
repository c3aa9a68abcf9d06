use Rattle.px_face.proofs.SurfaceLemmas.{scene_surface}
use Rattle.px_face.proofs.BackgroundLemmas.{shows_background}
use Rattle.px_face.proofs.SeenLemmas.{shows_first_cells}
use Rattle.px_face.proofs.surface.laws_of_surfaces.Goals as goal

pub returns-clause-background : goal.returns-clause-background
returns-clause-background c = shows_background scene_surface

pub returns-clause-seen : goal.returns-clause-seen
returns-clause-seen c = shows_first_cells scene_surface
