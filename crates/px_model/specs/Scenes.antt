-- What a contract sees of a solid and of a scene, and what every one keeps. Clauses of public calls stand on it.
use Rattle.std.specs.Prelude.{ℕ, ◌≤◌, ◌<◌, ◌+◌, ◌==◌, List, length, All, AllPairs, map, find, Option, Some}
use Rattle.std.specs.Prelude.{None, if◌then◌else◌, ◌≡◌, ◌≢◌, ◌^◌, ◌∷◌, [], Bool, not, ⊤, sum_by}
use Rattle.std.specs.Option.{option_or}
use Rattle.px_num.specs.declared.linear.Linear.{Linear}
use Rattle.px_num.specs.Forms.{IsWithin}
use Rattle.px_model.specs.declared.solid.Face.{Face}
use Rattle.px_model.specs.declared.solid.Colour.{Colour}
use Rattle.px_model.specs.declared.limits.TheConstants.{MAX_SLOPE, MAX_CONSTANT, MAX_PLANES_OF_A_KIND}
use Rattle.px_model.specs.declared.limits.TheConstants.{MAX_PICTURE_SIZE, MAX_DEPTH_BITS, MAX_FRACTION_BITS}
use Rattle.px_model.specs.declared.limits.TheConstants.{MAX_SOLIDS, MAX_FACES}
use Rattle.std.specs.List.{list_any, AllPass}
use Rattle.px_expr.specs.Tree.{Tree, HasLeavesBelow}
use Rattle.px_text.specs.Text.{is_name}

-- a solid: its name and colour, the number of its near face, and its planes by their kinds
pub record SolidView : Type 0 where
  pub name : List ℕ
  pub colour : Colour
  pub near_number : ℕ
  pub fronts : List Face
  pub backs : List Face
  pub sides : List Linear

abbrev pub names_of : List SolidView → List (List ℕ)
names_of solids = map (λ s. s.name) solids

-- the limits of a plane's coefficients
pub record IsPlane (form : Linear) : Type 0 where
  pub a : IsWithin MAX_SLOPE form.a
  pub b : IsWithin MAX_SLOPE form.b
  pub c : IsWithin MAX_CONSTANT form.c

-- each part of a colour is a byte
pub record IsColour (c : Colour) : Type 0 where
  pub red : c.red < 256
  pub green : c.green < 256
  pub blue : c.blue < 256

-- faces of one kind: few, within the limits, their numbers above the near face's and growing
pub record AreFaces (near_number : ℕ) (faces : List Face) : Type 0 where
  pub few : length faces ≤ MAX_PLANES_OF_A_KIND
  pub planes : All (λ f. IsPlane f.plane) faces
  pub colours : All (λ f. IsColour f.colour) faces
  pub numbers : All (λ f. near_number < f.number) faces
  pub order : AllPairs (λ f g. f.number < g.number) faces

pub record IsLawfulSolid (s : SolidView) : Type 0 where
  pub colour : IsColour s.colour
  pub fronts : AreFaces s.near_number s.fronts
  pub backs : AreFaces s.near_number s.backs
  pub few_sides : length s.sides ≤ MAX_PLANES_OF_A_KIND
  pub sides : All IsPlane s.sides

abbrev pub face_colour : Option Face → Option Colour
face_colour None = None
face_colour (Some f) = Some f.colour

-- the colour of the first of these faces that has the number
abbrev pub colour_among : List Face → ℕ → Option Colour
colour_among faces number = face_colour (find (λ f. f.number == number) faces)

-- the colour of the face of this number, where the solid has it
abbrev pub colour_in : SolidView → ℕ → Option Colour
colour_in s number =
    if s.near_number == number then Some s.colour
    else option_or (colour_among s.fronts number) (colour_among s.backs number)

-- the face numbers that a solid takes: its near face's, and those of its fronts and backs
abbrev pub faces_in : SolidView → ℕ
faces_in s = 1 + length s.fronts + length s.backs

-- a scene: its picture's size, the bits of its depths, its solids in their order, and the expression over their
-- indices
pub record SceneView : Type 0 where
  pub width : ℕ
  pub height : ℕ
  pub depth_bits : ℕ
  pub fraction_bits : ℕ
  pub solids : List SolidView
  pub show : Tree

-- the greatest face number of a scene
abbrev pub faces_of : List SolidView → ℕ
faces_of solids = sum_by faces_in solids

abbrev pub has_number : List Face → ℕ → Bool
has_number faces number = list_any (λ f. f.number == number) faces

-- the near face has the first number, and each of the next ones is a front's or a back's, but not both
pub record IsNumberedFrom (first : ℕ) (s : SolidView) : Type 0 where
  pub near : s.near_number ≡ first
  pub fronts : All (λ f. f.number < first + faces_in s) s.fronts
  pub backs : All (λ f. f.number < first + faces_in s) s.backs
  pub once : (n : ℕ) → first < n → n < first + faces_in s → has_number s.fronts n ≡ not (has_number s.backs n)

-- face numbers run from the first over the solids in their order
abbrev pub AreNumberedFrom : ℕ → List SolidView → Type 0
AreNumberedFrom first [] = ⊤
AreNumberedFrom first (s ∷ ss) = IsNumberedFrom first s × AreNumberedFrom (first + faces_in s) ss

-- a picture and depths within their limits
pub record AreSizes (width height depth_bits fraction_bits : ℕ) : Type 0 where
  pub some_width : 1 ≤ width
  pub width_limit : width ≤ MAX_PICTURE_SIZE
  pub some_height : 1 ≤ height
  pub height_limit : height ≤ MAX_PICTURE_SIZE
  pub some_depth : 1 ≤ depth_bits
  pub depth_limit : depth_bits + fraction_bits ≤ MAX_DEPTH_BITS
  pub fraction_limit : fraction_bits ≤ MAX_FRACTION_BITS

pub record IsLawfulScene (s : SceneView) : Type 0 where
  pub sizes : AreSizes s.width s.height s.depth_bits s.fraction_bits
  pub solids : length s.solids ≤ MAX_SOLIDS
  pub names : AllPass is_name (names_of s.solids)
  pub different : AllPairs (λ m n. m ≢ n) (names_of s.solids)
  pub numbers : AreNumberedFrom 1 s.solids
  pub faces : faces_of s.solids ≤ MAX_FACES
  pub shown : HasLeavesBelow (length s.solids) s.show

-- the least n of at least 1 with 2 ^ n at least the size
pub record IsGridExponent (size n : ℕ) : Type 0 where
  pub positive : 1 ≤ n
  pub enough : size ≤ 2 ^ n
  pub least : (m : ℕ) → 1 ≤ m → size ≤ 2 ^ m → n ≤ m

-- no light
abbrev pub black : Colour
black = record { red = 0; green = 0; blue = 0 }

abbrev pub colour_or : Option Colour → Colour → Colour
colour_or (Some colour) later = colour
colour_or None later = later

-- the colour of the face of this number
abbrev pub colour_in_scene : List SolidView → ℕ → Colour
colour_in_scene [] number = black
colour_in_scene (s ∷ ss) number = colour_or (colour_in s number) (colour_in_scene ss number)
