-- How many bytes the images of a command have, and what is answered where there is no room for them.
use Rattle.px_num.proofs.Basics.{ℕ, ◌≡◌, ◌+◌, ◌*◌, ◌<◌, ◌∙◌, true, List, [], ◌∷◌, ◌++◌, length, length-append, None, Err, Ok, OnOk, Result}
use Rattle.px_num.proofs.Basics.{ap, arith, nat_lt, nat_tests, range_with_len, flat_map, length-range_with_len, refl, subst, sym}
use Rattle.std.proofs.Math.Nat.{mul_assoc}
use Rattle.std.specs.Result.{IfErr}
use Rattle.px_model.specs.Scenes.{SceneView}
use Rattle.px_frame.specs.Finer.{fine_scene}
use Rattle.px_frame.specs.Picture.{depth_image, face_image, header}
use Rattle.px_frame.specs.Picture.{image_of_pixels, row_of_pixels, three_bytes}
use Rattle.px_frame.specs.Refined.{doublings, refined_image}
use Rattle.px_frame.specs.declared.plane.Fineness.{Fineness}
use Rattle.px_commands.specs.declared.command.Size.{Size}
use Rattle.px_commands.specs.declared.command.Work.{Work}
use Rattle.px_commands.specs.declared.command.Work.TheVariants as w
use Rattle.px_commands.specs.Outcomes.{Outcome, cut, done, drawable, refused, unless_refused, usage}
use Rattle.px_commands.specs.declared.stop.SceneStop.{SceneStop}
use Rattle.px_commands.specs.Results.{Meets}
use Rattle.px_commands.specs.Stops.{StopsAt, stopped}
use Rattle.px_commands.specs.Refusals.{text_refusal}
use Rattle.px_commands.proofs.StopLaws.{stop_serves}
use Rattle.px_draw.specs.Refining.{fine_refusal, refined}
use Rattle.px_draw.specs.Tiling.{tiles_refusal}
use Rattle.px_draw.specs.Works.{made, worked_out}
use Rattle.px_tile.specs.Tiles.{wide_scene}
use Rattle.px_c.specs.declared.answer.Answer.{Answer}
use Rattle.px_c.specs.declared.status.TheConstants.{NO_ROOM}
use Rattle.px_c.specs.Answers.{Answers, nothing}
use Rattle.px_c.specs.Rooms.{WritesBytes, image_size, images_size}
use Rattle.px_c.specs.RunAnswers.{outcome_answer}
use Rattle.px_c.specs.RunStops.{stop_answer}
use Rattle.px_c.proofs.RunLemmas.{answers_stop}

pieces : (f : ℕ → List ℕ) (n : ℕ) (xs : List ℕ) → ((x : ℕ) → length (f x) ≡ n) → length (flat_map f xs) ≡ n * length xs
pieces f n [] each = omega arith
pieces f n (x ∷ xs) each = omega (arith, length-append (f x) (flat_map f xs), each x, pieces f n xs each)

-- three bytes a pixel
image_long : (width height : ℕ) (pixel : (x y : ℕ) → List ℕ) → ((x y : ℕ) → length (pixel x y) ≡ 3)
    → length (image_of_pixels width height pixel) ≡ image_size width height
image_long width height pixel each =
    let row : (y : ℕ) → length (row_of_pixels width pixel y) ≡ 3 * width = λ y.
    pieces (λ x. pixel x y) 3 (range_with_len 0 width) (λ x. each x y) ∙ ap (λ n. 3 * n) (length-range_with_len 0 width) in
    let rows : length (flat_map (row_of_pixels width pixel) (range_with_len 0 height)) ≡ 3 * width * height =
    pieces (row_of_pixels width pixel) (3 * width) (range_with_len 0 height) row
    ∙ ap (λ n. 3 * width * n) (length-range_with_len 0 height) in
    length-append (header width height) (flat_map (row_of_pixels width pixel) (range_with_len 0 height))
    ∙ ap (λ n. length (header width height) + n) (rows ∙ mul_assoc 3 width height)

three_long : (number : ℕ) → length (three_bytes number) ≡ 3
unfolding three_bytes
three_long number = refl

depths_long : (scene : SceneView) → length (depth_image scene) ≡ image_size scene.width scene.height
depths_long scene = grind (arith, image_long, three_long)

faces_long : (scene : SceneView) → length (face_image scene) ≡ image_size scene.width scene.height
faces_long scene = grind (arith, image_long, three_long)

maps_long : (scene : SceneView) → length (depth_image scene ++ face_image scene) ≡ 2 * image_size scene.width scene.height
maps_long scene = grind (arith, length-append, depths_long, faces_long)

-- what comes where nothing is refused
writes : (count : ℕ) (o : Outcome) (bytes : List ℕ) → o ≡ done bytes → length bytes ≡ count → WritesBytes count o
writes count o bytes is long = subst (λ o. WritesBytes count o) (sym is) long

render_writes : (scene : SceneView) (bits : ℕ) → ((o : Outcome) → drawable bits scene o ≡ o)
    → WritesBytes (2 * image_size scene.width scene.height) (made w.Render scene bits)
render_writes scene bits fits = grind (arith, writes, length-append, depths_long, faces_long)

colour_writes : (scene : SceneView) (bits : ℕ) → ((o : Outcome) → drawable bits scene o ≡ o)
    → WritesBytes (image_size scene.width scene.height) (made w.Colour scene bits)
colour_writes scene bits fits = grind (arith, length, image_long, writes, length-append)

refine_writes : (scene : SceneView) (s bits : ℕ) → fine_refusal s scene ≡ None
    → ((o : Outcome) → drawable bits (fine_scene s scene) o ≡ o)
    → WritesBytes (image_size scene.width scene.height) (refined s scene bits)
refine_writes scene s bits none fits = grind (arith, writes, image_long)

pub refine_done : (result : Result (Unit {0}) SceneStop) (fine scene : SceneView) (s bits : ℕ)
    → fine_refusal s scene ≡ None → fine ≡ fine_scene s scene
    → OnOk result ((o : Outcome) → drawable bits fine o ≡ o)
    → OnOk result (WritesBytes (image_size scene.width scene.height) (refined s scene bits))
refine_done (Ok u) fine scene s bits none is fits =
    refine_writes scene s bits none (subst (λ fine. (o : Outcome) → drawable bits fine o ≡ o) is fits)
refine_done (Err stop) fine scene s bits none is fits = tt

pub tile_writes : (scene : SceneView) (size : Size) (bits : ℕ) → tiles_refusal size scene bits ≡ None
    → WritesBytes (2 * image_size size.width size.height) (made (w.Tile size) scene bits)
tile_writes scene size bits none = rw none (maps_long (wide_scene scene size.width size.height))

-- a scene is not served as some limits of outcomes say
pub stop_meets : (limits : Outcome → Outcome) (stop : SceneStop) (o : Outcome) → StopsAt limits stop
    → Meets (Err (stopped stop)) (limits o)
stop_meets limits stop o stops =
    (stop_serves stop limits o (record { written = None; finished = None; faults = 0 }) stops).meets

pub fine_meets : (scene : SceneView) (s bits : ℕ) (stop : SceneStop)
    → StopsAt (unless_refused (fine_refusal s scene)) stop → Meets (Err (stopped stop)) (refined s scene bits)
fine_meets scene s bits stop stops =
    stop_meets (unless_refused (fine_refusal s scene)) stop
    (drawable bits (fine_scene s scene) (done (refined_image s scene))) stops

pub refine_meets : (scene : SceneView) (s bits : ℕ) (stop : SceneStop) → fine_refusal s scene ≡ None
    → StopsAt (drawable bits (fine_scene s scene)) stop → Meets (Err (stopped stop)) (refined s scene bits)
refine_meets scene s bits stop none stops = grind (arith, stop_meets)

-- what a check of each command says of the outcome
pub drawn_done : (result : Result (Unit {0}) SceneStop) (work : Work) (scene : SceneView) (bits : ℕ) → work ≡ w.Render
    → OnOk result ((o : Outcome) → drawable bits scene o ≡ o)
    → OnOk result (WritesBytes (images_size work scene.width scene.height) (made work scene bits))
drawn_done (Ok u) work scene bits is fits = grind (arith, render_writes)
drawn_done (Err stop) work scene bits is fits = tt

pub coloured_done : (result : Result (Unit {0}) SceneStop) (work : Work) (scene : SceneView) (bits : ℕ)
    → work ≡ w.Colour → OnOk result ((o : Outcome) → drawable bits scene o ≡ o)
    → OnOk result (WritesBytes (images_size work scene.width scene.height) (made work scene bits))
coloured_done (Ok u) work scene bits is fits = grind (arith, colour_writes)
coloured_done (Err stop) work scene bits is fits = tt

pub refined_done : (result : Result (Unit {0}) SceneStop) (work : Work) (scene : SceneView) (fineness : Fineness)
    (s bits : ℕ) → work ≡ w.Refine fineness → s ≡ doublings fineness
    → OnOk result (WritesBytes (image_size scene.width scene.height) (refined s scene bits))
    → OnOk result (WritesBytes (images_size work scene.width scene.height) (made work scene bits))
refined_done result work scene fineness s bits is times holds =
    subst (λ work. OnOk result (WritesBytes (images_size work scene.width scene.height) (made work scene bits))) (sym is)
    (subst (λ s. OnOk result (WritesBytes (image_size scene.width scene.height) (refined s scene bits))) times holds)

pub refined_stops : (result : Result (Unit {0}) SceneStop) (work : Work) (scene : SceneView) (fineness : Fineness)
    (s bits : ℕ) → work ≡ w.Refine fineness → s ≡ doublings fineness
    → IfErr result (λ stop. Meets (Err (stopped stop)) (refined s scene bits))
    → IfErr result (λ stop. Meets (Err (stopped stop)) (made work scene bits))
refined_stops result work scene fineness s bits is times stops = grind (arith)

pub unread : (room : ℕ) (work : Work) (text : List ℕ) (bits : ℕ) (stop : SceneStop) (answer : Answer)
    → StopsAt (unless_refused (text_refusal text)) stop → answer ≡ stop_answer (stopped stop)
    → Answers (outcome_answer room (worked_out work text bits)) answer
unread room work text bits stop answer stops is = grind (arith, answers_stop, stop_meets)

pub answers_short : (room due : ℕ) (o : Outcome) → room < due → WritesBytes due o
    → Answers (outcome_answer room o) (record { status = NO_ROOM; found = record nothing { room = due } })
answers_short room due usage short long = absurd long
answers_short room due (refused reason) short long = absurd long
answers_short room due (cut bytes reason) short long = absurd long
answers_short room due (done bytes) short long = grind (arith, nat_lt, length, true, nat_tests)
