-- What operations come to: how many they are, or the clocks that they take. Only proofs and private functions
-- stand on it.
use Rattle.std.specs.Prelude.{◌≡◌, ℕ, ◌+◌, ◌*◌, ◌≤◌, true}
use Rattle.std.specs.List.{sum_by}
use Rattle.px_face.specs.Edges.{edge_count}
use Rattle.px_face.specs.Faces.{level}
use Rattle.px_macro.specs.declared.operation.Macro.{Macro}
use Rattle.px_macro.specs.declared.operation.Macro.TheVariants as m
use Rattle.px_model.specs.Cells.{depths_of}
use Rattle.px_model.specs.Scenes.{SceneView}
use Rattle.px_sched.specs.declared.step.Step.{Step}
use Rattle.px_sched.specs.declared.step.Step.TheVariants.{Begin, Candidate, Clear, Close, Confirm, Drop, Front}
use Rattle.px_sched.specs.declared.step.Step.TheVariants.{Merge, Open, Start, Turn}
use Rattle.px_sched.specs.Layouts.{layout_of}
use Rattle.px_sched.specs.Passes.{solid_of}
use Rattle.px_sched.specs.Worths.{bare}
use Rattle.px_control.specs.declared.measure.Measure.{Measure}
use Rattle.px_control.specs.declared.measure.Measure.TheVariants.{Clocks, Operations}
use Rattle.px_control.specs.declared.rates.Rates.{Rates}
use Rattle.px_control.specs.Program.{cycles_in}

abbrev pub measured : Measure → (clocks : ℕ) → ℕ
measured Operations clocks = 1
measured Clocks clocks = clocks

-- an operation on the grid of a scene
abbrev pub worth : SceneView → Measure → Macro → ℕ
worth scene measure m = measured measure (cycles_in scene m)

-- where those of the edges of a face count nothing
abbrev pub but_edges : SceneView → Measure → Macro → ℕ
but_edges scene measure (m.KeepSign form) = 0
but_edges scene measure m = worth scene measure m

-- a step but for its edges
abbrev pub bare_worth : SceneView → Measure → Step → ℕ
bare_worth scene measure step = sum_by (worth scene measure) (bare (layout_of scene) (depths_of scene) step)

-- what the steps of a face come to but for their edges, by their kinds, and an edge
pub record AreFaceRates (scene : SceneView) (measure : Measure) (rates : Rates) : Type 0 where
  pub candidate : rates.candidate ≡ bare_worth scene measure (Candidate 0 0)
  pub drop : rates.drop ≡ bare_worth scene measure (Drop 0 0)
  pub front : rates.front ≡ bare_worth scene measure (Front 0 0)
  pub turn : rates.turn ≡ bare_worth scene measure (Turn 0 0 0)
  pub edge : rates.edge ≡ worth scene measure (m.KeepSign (level 0))

-- what all steps come to
pub record AreRates (scene : SceneView) (measure : Measure) (rates : Rates) : Type 0 where
  pub start : rates.start ≡ bare_worth scene measure Start
  pub opening : rates.opening ≡ bare_worth scene measure Open
  pub clear : rates.clear ≡ bare_worth scene measure Clear
  pub confirm : rates.confirm ≡ bare_worth scene measure Confirm
  pub begin : rates.begin ≡ bare_worth scene measure (Begin 0)
  pub close : rates.close ≡ bare_worth scene measure (Close 0 true)
  pub merge : rates.merge ≡ bare_worth scene measure Merge
  pub faces : AreFaceRates scene measure rates

-- none of those of a face is great
pub record AreLowForFaces (rates : Rates) : Type 0 where
  pub candidate : rates.candidate ≤ 8364
  pub drop : rates.drop ≤ 8364
  pub front : rates.front ≤ 8364
  pub turn : rates.turn ≤ 8364
  pub edge : rates.edge ≤ 82

-- none of them is great
pub record AreLow (rates : Rates) : Type 0 where
  pub start : rates.start ≤ 8364
  pub opening : rates.opening ≤ 8364
  pub clear : rates.clear ≤ 8364
  pub confirm : rates.confirm ≤ 8364
  pub begin : rates.begin ≤ 8364
  pub close : rates.close ≤ 8364
  pub merge : rates.merge ≤ 8364
  pub faces : AreLowForFaces rates

-- a face's step by what it is but for its edges
abbrev pub with_edges : Rates → SceneView → (bare solid : ℕ) → ℕ
with_edges rates scene bare solid = bare + edge_count (solid_of scene solid) * rates.edge

-- a step by its kind and the edges of its solid
abbrev pub rated : Rates → SceneView → Step → ℕ
rated rates scene Start = rates.start
rated rates scene Open = rates.opening
rated rates scene (Candidate solid face) = with_edges rates scene rates.candidate solid
rated rates scene (Drop solid face) = with_edges rates scene rates.drop solid
rated rates scene Clear = rates.clear
rated rates scene (Front solid face) = with_edges rates scene rates.front solid
rated rates scene Confirm = rates.confirm
rated rates scene (Begin other) = rates.begin
rated rates scene (Turn other solid face) = with_edges rates scene rates.turn solid
rated rates scene (Close other plain) = rates.close
rated rates scene Merge = rates.merge
