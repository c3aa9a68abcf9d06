-- What `sample` answers: four numbers of the scene of so many blocks, and of its picture. Clauses of public
-- calls stand on it.
use Rattle.std.specs.Prelude.{ℕ, ◌==◌, if◌then◌else◌, List, length, sum_by}
use Rattle.std.specs.List.{range_with_len}
use Rattle.px_frame.specs.Picture.{depth_at, face_at}
use Rattle.px_sample.specs.Sample.{sample_text}
use Rattle.px_scene.specs.Scenes.{SceneView}
use Rattle.px_scene.specs.Text.{worded}
use Rattle.px_scene.specs.Reading.{scene_of}
use Rattle.px_prune.specs.Kept.{plan_of}
use Rattle.px_control.specs.Program.{total}
use Rattle.px_commands.specs.SampleText.{four_lines}
use Rattle.px_commands.specs.Outcomes.{Outcome, done, drawable, unless_refused}
use Rattle.px_commands.specs.Refusals.{text_refusal}

-- the sum of the numbers of so many pixels of row y, and that of so many rows of them
abbrev pub row_sum : (number : (x y : ℕ) → ℕ) → (width y : ℕ) → ℕ
row_sum number width y = sum_by (λ x. number x y) (range_with_len 0 width)

abbrev pub sum_over : (number : (x y : ℕ) → ℕ) → (width height : ℕ) → ℕ
sum_over number width height = sum_by (λ y. row_sum number width y) (range_with_len 0 height)

-- a number, where a face shows
abbrev pub where_shown : (face number : ℕ) → ℕ
where_shown face number = if face == 0 then 0 else number

abbrev pub one_at : SceneView → (x y : ℕ) → ℕ
one_at scene x y = where_shown (face_at scene x y) 1

abbrev pub shown_depth_at : SceneView → (x y : ℕ) → ℕ
shown_depth_at scene x y = where_shown (face_at scene x y) (depth_at scene x y)

-- how many pixels of the picture show a face, and the sum of their depths
abbrev pub shown : SceneView → ℕ
shown scene = sum_over (one_at scene) scene.width scene.height

abbrev pub depth_sum : SceneView → ℕ
depth_sum scene = sum_over (shown_depth_at scene) scene.width scene.height

-- the numbers of a scene: of its picture, of the products that can show anything, and of its clocks
abbrev pub measures : SceneView → List ℕ
measures scene = four_lines (shown scene) (depth_sum scene) (length (plan_of scene)) (total scene)

abbrev pub measures_answer : SceneView → (bits : ℕ) → Outcome
measures_answer scene bits = drawable bits scene (done (measures scene))

-- the refusal of a text, otherwise the numbers of its scene
abbrev pub text_measured : List ℕ → (bits : ℕ) → Outcome
text_measured text bits = unless_refused (text_refusal text) (measures_answer (scene_of (worded text)) bits)

-- the numbers of the sample of n blocks
unfoldable pub sampled : (n bits : ℕ) → Outcome
sampled n bits = text_measured (sample_text n) bits

unfoldable pub sample_scene : (n : ℕ) → SceneView
sample_scene n = scene_of (worded (sample_text n))
