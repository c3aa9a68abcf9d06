-- What is made of the sample's text is what the command does, and the shown pixels grow pixel by pixel and row by row.
use Rattle.px_num.proofs.Basics.{ℕ, ◌≡◌, ◌+◌, ◌*◌, ◌≤◌, List, None, Result, refl, subst, arith}
use Rattle.px_io.specs.Reports.{SinkState}
use Rattle.px_array.specs.Slots.{ArrayView}
use Rattle.px_scene.specs.Scenes.{SceneView}
use Rattle.px_sample.specs.Sample.{sample_text}
use Rattle.px_scene.specs.Text.{worded}
use Rattle.px_scene.specs.Reading.{scene_of}
use Rattle.px_frame.proofs.MeanSumLaws.{sum_more}
use Rattle.px_sample.specs.declared.drawing.Shown.{Shown}
use Rattle.px_commands.specs.declared.status.Status.{Status}
use Rattle.px_commands.specs.declared.stop.Stop.{Stop}
use Rattle.px_commands.specs.Arrays.{Draws}
use Rattle.px_sample.specs.Countings.{IsShownAtMost, shown_at, shown_within, shown_in_row, shown_together}
use Rattle.px_commands.specs.Refusals.{text_refusal}
use Rattle.px_sample.specs.Samples.{measures_answer, one_at, row_sum, sample_scene, sampled, shown_depth_at}
use Rattle.px_sample.specs.Samples.{text_measured}
use Rattle.px_commands.specs.Stops.{DoesWork}

-- what is done for the sample's text is done for the sample
pub sample_serves : (result : Result (Unit {0}) Stop) (n bits : ℕ) (text : List ℕ) (a b : SinkState)
    → text ≡ sample_text n → DoesWork result (text_measured text bits) a b → DoesWork result (sampled n bits) a b
unfolding sampled
sample_serves result n bits text a b is serves = subst (λ t. DoesWork result (text_measured t bits) a b) is serves

pub sample_draws : (found : Status) (n bits : ℕ) (text : List ℕ) (before now : ArrayView) → text ≡ sample_text n
    → Draws found bits (scene_of (worded text)) before now → Draws found bits (sample_scene n) before now
unfolding sample_scene
sample_draws found n bits text before now is draws =
    subst (λ t. Draws found bits (scene_of (worded t)) before now) is draws

-- the scene of a text is served
pub scene_serves : (result : Result (Unit {0}) Stop) (text : List ℕ) (bits : ℕ) (scene : SceneView) (a b : SinkState)
    → text_refusal text ≡ None → scene ≡ scene_of (worded text) → DoesWork result (measures_answer scene bits) a b
    → DoesWork result (text_measured text bits) a b
scene_serves result text bits scene a b good is serves =
    let here : text_measured text bits ≡ measures_answer scene bits = rw (good, is) refl in
    rw here serves

-- one pixel more
pub row_more : (scene : SceneView) (y n : ℕ) → shown_together (shown_in_row scene n y) (shown_at scene n y)
    ≡ shown_in_row scene (n + 1) y
row_more scene y n = rw (sum_more (λ x. one_at scene x y) n, sum_more (λ x. shown_depth_at scene x y) n) refl

-- one row more
pub rows_more : (scene : SceneView) (width n : ℕ)
    → shown_together (shown_within scene width n) (shown_in_row scene width n) ≡ shown_within scene width (n + 1)
rows_more scene width n =
    rw (sum_more (λ y. row_sum (one_at scene) width y) n, sum_more (λ y. row_sum (shown_depth_at scene) width y) n) refl

pub most_grows : (m n : ℕ) (shown : Shown) → m ≤ n → IsShownAtMost m shown → IsShownAtMost n shown
most_grows m n shown less most =
    record { pixels = omega (arith, less, most.pixels); depths = omega (arith, less, most.depths) }

pub most_together : (first more : Shown) (size n : ℕ) → IsShownAtMost (size * n) first → IsShownAtMost size more
    → IsShownAtMost (size * (n + 1)) (shown_together first more)
most_together first more size n most next =
    record { pixels = omega (arith, most.pixels, next.pixels); depths = omega (arith, most.depths, next.depths) }
