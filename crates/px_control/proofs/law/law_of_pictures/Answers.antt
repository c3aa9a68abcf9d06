use Rattle.px_control.proofs.PictureLemmas.{picture_law}
use Rattle.px_control.proofs.law.law_of_pictures.Goals as goal

pub returns : goal.returns
returns c = picture_law
