-- What holds of the passes of every scene.
use Rattle.px_sched.proofs.Words.{layout_of, plan_of, bit_length, depths_of, end_is_small, end_of, faces_of, kept_of}
use Rattle.px_sched.proofs.Words.{KeyedPixel, picture, steps_with, sum_of_products}
use Rattle.px_sched.specs.PassesFacts.{PassesAreFew, PassesAreLawful, StepsAreLawful}
use Rattle.px_sched.proofs.FewLaws.{few_passes}
use Rattle.px_sched.proofs.FitLemmas.{scene_passes_fit, step_fits}
use Rattle.px_sched.proofs.LawfulLaws.{passes_are}
use Rattle.px_sched.proofs.LayoutLaws.{scene_layout}
use Rattle.px_num.proofs.Basics.{◌+◌, ap, ◌∙◌}
use Rattle.px_sched.proofs.NumbersLemmas.{numbers_show_the_picture}
use Rattle.px_sched.specs.PassesLaw.{PassesLaw}
use Rattle.px_sched.proofs.BridgeLemmas.{all_steps, b_parts, keys_in}
use Rattle.px_sched.proofs.RoomLemmas.{bits_enough, numbers_fit, shifted}

pub steps_are_lawful : StepsAreLawful
steps_are_lawful scene lawful solids = step_fits scene lawful solids (scene_layout scene lawful)

pub passes_are_lawful : PassesAreLawful
passes_are_lawful scene lawful solids =
    rw (passes_are scene) (scene_passes_fit scene lawful solids (scene_layout scene lawful) (plan_of scene))

pub passes_are_few : PassesAreFew
passes_are_few scene solids few =
    rw (passes_are scene) (few_passes scene (layout_of scene) solids (plan_of scene) few)

-- the passes leave in the memory what they leave in the numbers: the sight of the pixel
pub passes_leave_the_picture : PassesLaw
passes_leave_the_picture scene lawful solids x y left up p long =
    let w = scene.depth_bits
    in let f = scene.fraction_bits
    in let i = bit_length (faces_of scene.solids)
    in let place : KeyedPixel = record { number_bits = i; x = x; y = y }
    in let shown =
    numbers_show_the_picture scene lawful solids place (record {
      number_bits = bits_enough (faces_of scene.solids) lawful.faces;
      left = left;
      up = up;
    }) (keys_in w f i p.memory)
    in let same =
    all_steps scene i x y (numbers_fit scene lawful)
    (shifted (end_of (depths_of scene)) (w + f) i (end_is_small w f))
    (steps_with scene (kept_of scene (sum_of_products scene.show))) p long
    in let parts = b_parts w f i (picture scene x y).depth (picture scene x y).face _ shown.face
    (ap (λ n. n.best) same ∙ shown.key)
    in rw (passes_are scene) (record { depth = parts.0; whole = parts.2; face = parts.1 })
