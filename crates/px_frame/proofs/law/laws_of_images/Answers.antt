use Rattle.px_frame.proofs.ImageLemmas.{faces_stored, images_show}
use Rattle.px_frame.proofs.law.laws_of_images.Goals as goal

pub returns : goal.returns
returns c = record { images = images_show; faces = faces_stored }
