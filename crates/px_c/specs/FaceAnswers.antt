-- A face by its number: its solid, which plane of it, its colour and its line. Clauses of public calls stand on it.
use Rattle.std.specs.Prelude.{ℕ, ◌+◌, ◌-◌, ◌==◌, ◌||◌, Bool, false, codes, if◌then◌else◌, List, [], ◌∷◌, length}
use Rattle.std.specs.Prelude.{Option, find, get_or, is_some}
use Rattle.std.specs.List.{position}
use Rattle.std.specs.Option.{option_map, option_map_or}
use Rattle.std.specs.Str.{bytes_eq}
use Rattle.px_model.specs.Scenes.{SceneView, SolidView, colour_in_scene, has_number}
use Rattle.px_model.specs.declared.solid.Colour.{Colour}
use Rattle.px_model.specs.declared.solid.Face.{Face}
use Rattle.px_scene.specs.Reading.{refusal_of, scene_of}
use Rattle.px_scene.specs.Text.{Words, worded}
use Rattle.px_c.specs.Answers.{answer_unless_refused, scene_found, within_room}
use Rattle.px_c.specs.declared.answer.Answer.{Answer}
use Rattle.px_c.specs.declared.numbered.NumberedFace.{NumberedFace}
use Rattle.px_c.specs.declared.numbered.Place.{Place}
use Rattle.px_c.specs.declared.numbered.TheConstants.{BACK, FRONT, NEAR}
use Rattle.px_c.specs.declared.status.TheConstants.{NO_FACE}

-- whether a solid has the face of this number
abbrev pub owns : SolidView → (number : ℕ) → Bool
owns s number = s.near_number == number || has_number s.fronts number || has_number s.backs number

-- the place of the face of this number among those of one kind, counted from 1; 0 where none has it
abbrev pub place_among : List Face → (number : ℕ) → ℕ
place_among faces number = option_map_or (λ i. i + 1) (position (λ f. f.number == number) faces) 0

-- a solid's face of this number: its kind, and its place among those of this kind
abbrev pub place_in : SolidView → (number : ℕ) → Place
place_in s number =
    if s.near_number == number then record { kind = NEAR; plane = 0 }
    else if has_number s.fronts number then record { kind = FRONT; plane = place_among s.fronts number }
    else record { kind = BACK; plane = place_among s.backs number }

-- the first of these solids that has the face, and its place among them, counted from 1; 0 where none has it
abbrev pub owner_of : List SolidView → (number : ℕ) → Option SolidView
owner_of solids number = find (λ s. owns s number) solids

abbrev pub owner_place : List SolidView → (number : ℕ) → ℕ
owner_place solids number = option_map_or (λ i. i + 1) (position (λ s. owns s number) solids) 0

-- the first words of lines that give a face its number: a solid's, for its near face, and those of its fronts and backs
abbrev pub begins_face : List ℕ → Bool
begins_face w = bytes_eq w (codes "solid") || bytes_eq w (codes "front") || bytes_eq w (codes "back")

abbrev pub has_face : Words → Bool
has_face [] = false
has_face (w ∷ ws) = begins_face w

-- the numbers of these lines, where the first of all has this number; faces are numbered in their order
abbrev pub face_lines : List Words → (first : ℕ) → List ℕ
face_lines [] first = []
face_lines (l ∷ ls) first = if has_face l then first ∷ face_lines ls (first + 1) else face_lines ls (first + 1)

-- the line of the face of this number; 0 where none has it
abbrev pub face_line : List Words → (number : ℕ) → ℕ
face_line lines number = get_or (face_lines lines 1) (number - 1) 0

-- a face as C has it
abbrev pub as_numbers : Place → Colour → (solid line : ℕ) → NumberedFace
as_numbers p colour solid line = record {
  solid = solid;
  kind = p.kind;
  plane = p.plane;
  line = line;
  red = colour.red;
  green = colour.green;
  blue = colour.blue;
}

-- what is known of the face of this number in a scene that these lines say, where it has one
abbrev pub known_face : List Words → SceneView → (number : ℕ) → Option NumberedFace
known_face lines scene number =
    option_map
    (λ s. as_numbers (place_in s number) (colour_in_scene scene.solids number) (owner_place scene.solids number)
    (face_line lines number))
    (owner_of scene.solids number)

-- the name of the solid of this face
abbrev pub owner_name : SceneView → (number : ℕ) → List ℕ
owner_name scene number = option_map_or (λ s. s.name) (owner_of scene.solids number) []

-- what is found of a scene's face, in a buffer of so much room for a name
abbrev pub known_answer : (room : ℕ) → SceneView → (number : ℕ) → Answer
known_answer room scene number =
    if is_some (owner_of scene.solids number)
    then within_room room (length (owner_name scene number)) (scene_found scene)
    else record { status = NO_FACE; found = scene_found scene }

-- `pxplanes_face`
abbrev pub face_answer : List ℕ → (number room : ℕ) → Answer
face_answer text number room = answer_unless_refused (refusal_of text) (known_answer room (scene_of (worded text)) number)
