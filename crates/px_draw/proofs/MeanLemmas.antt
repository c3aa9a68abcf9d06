-- What serves the finer scene serves the refinement.
use Rattle.std.proofs.Common.{◌≡◌, ℕ, Option, None, Result, [], ◌∷◌, ap, subst, sym, ◌∙◌}
use Rattle.px_io.specs.Reports.{SinkState}
use Rattle.px_scene.specs.Scenes.{SceneView}
use Rattle.px_frame.proofs.MeanLemmas.{images_refined}
use Rattle.px_frame.specs.Finer.{fine_scene}
use Rattle.px_frame.specs.Images.{images}
use Rattle.px_frame.specs.Refined.{doublings, refined_image}
use Rattle.px_frame.specs.declared.plane.Fineness.{Fineness}
use Rattle.px_frame.specs.declared.plane.Plane.TheVariants as p
use Rattle.px_commands.specs.declared.refusal.Refusal.{Refusal}
use Rattle.px_commands.specs.declared.stop.Stop.{Stop}
use Rattle.px_commands.specs.Outcomes.{done, drawable, unless_refused}
use Rattle.px_commands.specs.Stops.{DoesWork}
use Rattle.px_draw.specs.Refining.{fine_refusal, refined}

pub serves_refined : (result : Result (Unit {0}) Stop) (fineness : Fineness) (s : ℕ) (scene fine : SceneView) (bits : ℕ)
    (a b : SinkState) → s ≡ doublings fineness → fine_refusal s scene ≡ None → fine ≡ fine_scene s scene
    → DoesWork result (drawable bits fine (done (images fine (p.Means fineness ∷ [])))) a b
    → DoesWork result (refined (doublings fineness) scene bits) a b
serves_refined result fineness s scene fine bits a b same none is serves =
    let finer = fine_scene (doublings fineness) scene in
    let good : None ≡ fine_refusal (doublings fineness) scene = sym none ∙ ap (λ k. fine_refusal k scene) same in
    subst (λ (r : Option Refusal). DoesWork result
    (unless_refused r (drawable bits finer (done (refined_image (doublings fineness) scene)))) a b) good
    (subst (λ bytes. DoesWork result (drawable bits finer (done bytes)) a b) (images_refined fineness scene)
    (subst (λ (f : SceneView). DoesWork result (drawable bits f (done (images f (p.Means fineness ∷ [])))) a b)
    (is ∙ ap (λ k. fine_scene k scene) same) serves))
