-- What a call answers for a text: its status, and what it found. Clauses of public calls stand on it.
use Rattle.std.specs.Prelude.{◌≡◌, ◌⊎◌, ℕ, ℤ, ◌*◌, pos, List, length, min, nat_lt, if◌then◌else◌, Option, Some, None}
use Rattle.px_num.specs.Want.{want}
use Rattle.px_show.specs.declared.fault.Cause.{Cause}
use Rattle.px_show.specs.declared.fault.LimitKind.TheVariants as kind
use Rattle.px_show.specs.Judged.{SceneFault}
use Rattle.px_show.specs.declared.fault.TextFault.TheVariants as f
use Rattle.px_scene.specs.Reading.{refusal_of, scene_of}
use Rattle.px_scene.specs.Text.{worded}
use Rattle.px_model.specs.Scenes.{SceneView, faces_of}
use Rattle.px_prune.specs.Kept.{crowd_of, plan_of}
use Rattle.px_sched.specs.Passes.{passes}
use Rattle.px_control.specs.Program.{total}
use Rattle.px_control.specs.declared.fault.JobFault.{JobFault}
use Rattle.px_control.specs.declared.fault.JobFault.TheVariants as job
use Rattle.px_frame.specs.Refusals.{job_refusal, too_many_of}
use Rattle.px_c.specs.declared.answer.Answer.{Answer}
use Rattle.px_c.specs.declared.found.Found.{Found}
use Rattle.px_c.specs.declared.status.TheConstants.{BITS, LIMIT, MALFORMED, MEMORY, NO_ROOM, OK}
use Rattle.px_c.specs.Literals.{all_literals}
use Rattle.px_c.specs.Numbers.{cause_number, kind_number}

abbrev pub nothing : Found
nothing = record {
  width = 0;
  height = 0;
  faces = 0;
  line = 0;
  cause = 0;
  kind = 0;
  number = pos 0;
  operations = 0;
  clocks = 0;
  room = 0;
}

-- the picture's size, and how many faces its scene has
abbrev pub scene_found : SceneView → Found
scene_found scene = record nothing { width = scene.width; height = scene.height; faces = faces_of scene.solids }

-- and what its passes cost
abbrev pub cost_found : SceneView → Found
cost_found scene = record (scene_found scene) { operations = length (passes scene); clocks = total scene }

-- a bad line, and why
abbrev pub malformed_answer : (line : ℕ) → Cause → Answer
malformed_answer line cause =
    record { status = MALFORMED; found = record nothing { line = line; cause = cause_number cause } }

-- what is found past the limit of a kind
abbrev pub limit_answer : (line kind : ℕ) → (number : ℤ) → Answer
limit_answer line kind number =
    record { status = LIMIT; found = record nothing { line = line; kind = kind; number = number } }

-- the refusal of a text: its first bad line, and why, or what it found past a limit
abbrev pub refused_answer : SceneFault → Answer
refused_answer (f.Malformed line cause) = malformed_answer line cause
refused_answer (f.Limit line limit found) = limit_answer line (kind_number limit) found
refused_answer (f.Memory _) = record { status = MEMORY; found = nothing }

-- a refusal of the array as one of the text: a limit of no one line
abbrev pub text_fault_of : JobFault → SceneFault
text_fault_of (job.PixelMemory need) = f.Limit 0 kind.PixelMemory (pos need)
text_fault_of (job.Products count) = f.Limit 0 kind.Products (pos count)
text_fault_of (job.Memory m) = f.Memory m

abbrev pub by_job : Option JobFault → Option SceneFault
by_job None = None
by_job (Some fault) = Some (text_fault_of fault)

-- why a scene has no picture, where it has none
abbrev pub undrawn : SceneView → Option SceneFault
undrawn scene = by_job (job_refusal BITS scene)

abbrev pub answer_unless_refused : Option SceneFault → Answer → Answer
answer_unless_refused (Some fault) answer = refused_answer fault
answer_unless_refused None answer = answer

-- what was found, where buffers of so much room have enough of it
abbrev pub within_room : (room due : ℕ) → Found → Answer
within_room room due found =
    if nat_lt room due then record { status = NO_ROOM; found = record found { room = due } }
    else record { status = OK; found = found }

-- how many pixels the picture has
abbrev pub pixels_of : SceneView → ℕ
pixels_of scene = scene.width * scene.height

-- what is found of a scene whose picture takes so many elements, in buffers of so much room
abbrev pub drawn_answer : (room due : ℕ) → SceneView → Answer
drawn_answer room due scene = answer_unless_refused (undrawn scene) (within_room room due (cost_found scene))

abbrev pub listed_answer : (room : ℕ) → SceneView → Answer
listed_answer room scene =
    answer_unless_refused (by_job (too_many_of (crowd_of scene)))
    (within_room room (length (all_literals (plan_of scene))) (scene_found scene))

-- `pxplanes_check`: no buffer is asked
abbrev pub check_answer : List ℕ → Answer
check_answer text = answer_unless_refused (refusal_of text) (drawn_answer 0 0 (scene_of (worded text)))

-- `pxplanes_render`: an element a pixel, in each of two buffers
abbrev pub render_answer : List ℕ → (depths faces : ℕ) → Answer
render_answer text depths faces =
    let scene = scene_of (worded text)
    in answer_unless_refused (refusal_of text) (drawn_answer (min depths faces) (pixels_of scene) scene)

-- `pxplanes_colour`: three bytes a pixel
abbrev pub colour_answer : List ℕ → (room : ℕ) → Answer
colour_answer text room =
    let scene = scene_of (worded text)
    in answer_unless_refused (refusal_of text) (drawn_answer room (3 * pixels_of scene) scene)

-- `pxplanes_products`
abbrev pub products_answer : List ℕ → (room : ℕ) → Answer
products_answer text room = answer_unless_refused (refusal_of text) (listed_answer room (scene_of (worded text)))

-- a call answers this, or that memory ran out, and then it found nothing
abbrev pub Answers : Answer → Answer → Type 0
Answers due answer = (answer ≡ due) ⊎ (answer ≡ refused_answer (f.Memory want))

-- the status that a call returns, and what it wrote down as found, are such an answer
abbrev pub TellsAnswer : Answer → (status : ℕ) → Found → Type 0
TellsAnswer due status found = Answers due (record { status = status; found = found })
