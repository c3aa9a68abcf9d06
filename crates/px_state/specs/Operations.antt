-- The operations of a text as data: of each its kind, its numbers and its first clock, and of a scene's passes what
-- it is for (docs/PASSES.md, "Steps"). Clauses of public calls stand on it.
use Rattle.std.specs.Prelude.{◌≡◌, ℕ, ℤ, ◌+◌, ◌<◌, ◌≤◌, pos, Bool, true, false, List, Some, get_or, length}
use Rattle.std.specs.Prelude.{slice_get, take}
use Rattle.std.specs.List.{flat_map}
use Rattle.px_text.specs.Text.{worded}
use Rattle.px_scene.specs.Reading.{scene_of}
use Rattle.px_model.specs.Scenes.{SceneView}
use Rattle.px_face.specs.Faces.{face_number}
use Rattle.px_macro.specs.declared.operation.Macro.{Macro}
use Rattle.px_sched.specs.declared.step.Step.{Step}
use Rattle.px_sched.specs.declared.step.Step.TheVariants.{Start, Open, Candidate, Drop, Clear, Front, Confirm}
use Rattle.px_sched.specs.declared.step.Step.TheVariants.{Begin, Turn, Close, Merge}
use Rattle.px_sched.specs.Layouts.{layout_of}
use Rattle.px_sched.specs.Passes.{operations, solid_of, steps}
use Rattle.px_sched.specs.StepCursors.{literals_in}
use Rattle.px_listing.specs.Kinds.{operands_of, operation_kind}
use Rattle.px_listing.specs.Listings.{ListingView}
use Rattle.px_listing.specs.Reading.{listing_of}
use Rattle.px_listing.specs.PassesText.{passes_listing}
use Rattle.px_state.specs.Courses.{start_in_listing}
use Rattle.px_state.specs.Refusals.{is_listing}
use Rattle.px_state.specs.declared.operation.Operation.{Operation}

abbrev pub no_operation : Operation
no_operation = record {
  first = pos 0;
  second = pos 0;
  third = pos 0;
  fourth = pos 0;
  fifth = pos 0;
  clock = 0;
  pass = 0;
  literal = 0;
  kind = 0;
  count = 0;
  role = 0;
  solid = 0;
  face = 0;
  other = 0;
}

-- a number of an operation's line, and 0 behind the last
abbrev pub operand : Macro → (place : ℕ) → ℤ
operand m place = get_or (operands_of m) place (pos 0)

-- the steps in the order in which the passes have them
abbrev pub role_number : Step → ℕ
role_number Start = 1
role_number Open = 2
role_number (Candidate solid face) = 3
role_number (Drop solid face) = 4
role_number Clear = 5
role_number (Front solid face) = 6
role_number Confirm = 7
role_number (Begin other) = 8
role_number (Turn other solid face) = 9
role_number (Close other plain) = 10
role_number Merge = 11

-- the solid whose face a step is of, counted from 1; 0 where it is of no face
abbrev pub solid_number : Step → ℕ
solid_number (Candidate solid face) = solid + 1
solid_number (Drop solid face) = solid + 1
solid_number (Front solid face) = solid + 1
solid_number (Turn other solid face) = solid + 1
solid_number step = 0

-- that face's number; 0 for the far limit, which has none, and where it is of no face
abbrev pub number_of_face : SceneView → Step → ℕ
number_of_face scene (Candidate solid face) = face_number (solid_of scene solid) face
number_of_face scene (Drop solid face) = face_number (solid_of scene solid) face
number_of_face scene (Front solid face) = face_number (solid_of scene solid) face
number_of_face scene (Turn other solid face) = face_number (solid_of scene solid) face
number_of_face scene step = 0

-- the other literal that a step asks, counted from 1 among those of its product that are of other solids; 0
-- where it asks none
abbrev pub other_number : Step → ℕ
other_number (Begin other) = other + 1
other_number (Turn other solid face) = other + 1
other_number (Close other plain) = other + 1
other_number step = 0

-- what the operations of a step are for: its pass, counted from 0, and its literal, counted from 1 among those
-- of all products
abbrev pub purpose_of : SceneView → Step → (pass literal : ℕ) → Operation
purpose_of scene step pass literal = record no_operation {
  pass = pass;
  literal = literal;
  role = role_number step;
  solid = solid_number step;
  face = number_of_face scene step;
  other = other_number step;
}

-- an operation that begins at a clock, and is for something
abbrev pub told : Macro → (clock : ℕ) → (purpose : Operation) → Operation
told m clock purpose = record purpose {
  first = operand m 0;
  second = operand m 1;
  third = operand m 2;
  fourth = operand m 3;
  fifth = operand m 4;
  clock = clock;
  kind = operation_kind m;
  count = length (operands_of m);
}

-- operation k of a listing, which is for something
pub record IsOperation (l : ListingView) (k : ℕ) (purpose : Operation) (operation : Operation) : Type 0 where
  pub m : Macro
  pub is : slice_get l.macros k ≡ Some m
  pub told_is : operation ≡ told m (start_in_listing l k) purpose

-- of a listing nothing is known of what it is for
abbrev pub IsOfListing : ListingView → (k : ℕ) → Operation → Type 0
IsOfListing l k operation = IsOperation l k no_operation operation

-- how many operations the first steps of a scene have
abbrev pub operations_before : SceneView → (pass : ℕ) → ℕ
operations_before scene pass = length (flat_map (operations scene (layout_of scene)) (take pass (steps scene)))

-- operation k of a scene's passes is one of the step that its pass is, and reports it
pub record IsPassed (scene : SceneView) (k : ℕ) (operation : Operation) : Type 0 where
  pub step : Step
  pub is : slice_get (steps scene) operation.pass ≡ Some step
  pub from : operations_before scene operation.pass ≤ k
  pub to : k < operations_before scene (operation.pass + 1)
  pub operation_is : IsOperation (passes_listing scene) k
      (purpose_of scene step operation.pass (literals_in (take (operation.pass + 1) (steps scene)))) operation

-- each is the one of its place, from the first on
abbrev pub HasOperations : (Is : ℕ → Operation → Type 0) → (first : ℕ) → List Operation → Type 0
HasOperations Is first list = (j : ℕ) → j < length list → Is (first + j) (get_or list j no_operation)

-- operation k of a listing, or of a scene
abbrev pub IsOperationBy : (listed : Bool) → List ℕ → (k : ℕ) → Operation → Type 0
IsOperationBy true text k operation = IsOfListing (listing_of (worded text)) k operation
IsOperationBy false text k operation = IsPassed (scene_of (worded text)) k operation

-- operation k of a text
abbrev pub IsOperationOf : List ℕ → (k : ℕ) → Operation → Type 0
IsOperationOf text k operation = IsOperationBy (is_listing text) text k operation
