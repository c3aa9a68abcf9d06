-- The canonical text of a scene: the one way in which it is written. Clauses of public calls stand on it.
use Rattle.std.specs.Prelude.{ℕ, ◌+◌, ◌==◌, if◌then◌else◌, List, [], ◌∷◌, ◌++◌, codes, decimal, filter, length}
use Rattle.std.specs.Fmt.{signed_decimal}
use Rattle.std.specs.List.{flat_map, range_with_len}
use Rattle.px_num.specs.declared.linear.Linear.{Linear}
use Rattle.px_model.specs.declared.solid.Colour.{Colour}
use Rattle.px_model.specs.declared.solid.Face.{Face}
use Rattle.px_text.specs.Text.{Words}
use Rattle.px_text.specs.Written.{spaced}
use Rattle.px_show.specs.Printed.{printed, named_by}
use Rattle.px_model.specs.Scenes.{SolidView, names_of, SceneView}
use Rattle.px_show.specs.Versions.{has_difference, version_word}
use Rattle.px_show.specs.declared.scene_version.Version.{Version}
use Rattle.px_show.specs.declared.scene_version.Version.TheVariants as v

-- a line: its first word, the words after it, and the line feed
unfoldable pub written_line : List ℕ → Words → List ℕ
written_line w ws = w ++ spaced ws ++ 10 ∷ []

-- the numbers of a colour and of a plane
abbrev pub colour_words : Colour → Words
colour_words c = decimal c.red ∷ decimal c.green ∷ decimal c.blue ∷ []

abbrev pub words_of_plane : Linear → Words
words_of_plane p = signed_decimal p.a ∷ signed_decimal p.b ∷ signed_decimal p.c ∷ []

-- a front or a back, with its colour
abbrev pub face_line : List ℕ → Face → List ℕ
face_line kind f = written_line kind (words_of_plane f.plane ++ colour_words f.colour)

abbrev pub side_line : Linear → List ℕ
side_line p = written_line (codes "side") (words_of_plane p)

-- the lines of the faces that have a number
abbrev pub face_lines_at : List ℕ → List Face → ℕ → List ℕ
face_lines_at kind faces number = flat_map (face_line kind) (filter (λ f. f.number == number) faces)

abbrev pub lines_of_number : SolidView → ℕ → List ℕ
lines_of_number s number = face_lines_at (codes "front") s.fronts number ++ face_lines_at (codes "back") s.backs number

-- fronts and backs together, in the order of their numbers
abbrev pub face_lines : SolidView → List ℕ
face_lines s = flat_map (lines_of_number s) (range_with_len (s.near_number + 1) (length s.fronts + length s.backs))

-- a solid: its line, its fronts and backs, and its sides
abbrev pub solid_lines : SolidView → List ℕ
solid_lines s =
    written_line (codes "solid") (s.name ∷ colour_words s.colour)
    ++ face_lines s
    ++ flat_map side_line s.sides

-- the first version in which a scene can be written
abbrev pub version_for : SceneView → Version
version_for scene =
    if scene.fraction_bits == 0
    then (if has_difference scene.show then v.Two else v.One)
    else v.Three

-- the words of a depth line
abbrev pub depth_words : Version → ℕ → ℕ → Words
depth_words v.One bits fraction = decimal bits ∷ []
depth_words v.Two bits fraction = decimal bits ∷ []
depth_words v.Three bits fraction = decimal bits ∷ decimal fraction ∷ []

abbrev pub first_lines : SceneView → List ℕ
first_lines scene =
    written_line (codes "pxscene") (version_word (version_for scene) ∷ [])
    ++ written_line (codes "picture") (decimal scene.width ∷ decimal scene.height ∷ [])
    ++ written_line (codes "depth") (depth_words (version_for scene) scene.depth_bits scene.fraction_bits)

abbrev pub show_line : SceneView → List ℕ
show_line scene = written_line (codes "show") (printed (named_by (names_of scene.solids) scene.show) ∷ [])

-- the size of the picture, the solids, what is shown, and the end
abbrev pub canonical_text : SceneView → List ℕ
canonical_text scene =
    first_lines scene
    ++ flat_map solid_lines scene.solids
    ++ show_line scene
    ++ written_line (codes "end") []
