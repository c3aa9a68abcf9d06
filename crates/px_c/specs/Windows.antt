-- What `pxplanes_window` answers, and what it leaves in a buffer. Clauses of public calls stand on it.
use Rattle.std.specs.Prelude.{ℕ, ℤ, ◌+◌, Bool, ◌&&◌, nat_le, if◌then◌else◌, List, min, Option, Some, None}
use Rattle.px_model.specs.Planes.{first_past}
use Rattle.px_model.specs.Scenes.{SceneView}
use Rattle.px_model.specs.declared.limits.TheConstants.{MAX_PICTURE_SIZE, MAX_WIDE_PICTURE_SIZE}
use Rattle.px_scene.specs.Reading.{refusal_of, scene_of}
use Rattle.px_scene.specs.Text.{worded}
use Rattle.px_show.specs.Judged.{SceneFault}
use Rattle.px_show.specs.declared.fault.LimitKind.TheVariants as kind
use Rattle.px_show.specs.declared.fault.TextFault.TheVariants as f
use Rattle.px_tile.specs.Tiles.{tile_scene}
use Rattle.px_tile.specs.declared.fault.TileFault.{TileFault}
use Rattle.px_tile.specs.declared.fault.TileFault.TheVariants as tile
use Rattle.px_c.specs.Answers.{answer_unless_refused, drawn_answer, nothing, pixels_of}
use Rattle.px_c.specs.Buffers.{HoldsNumbers}
use Rattle.px_c.specs.declared.answer.Answer.{Answer}
use Rattle.px_c.specs.declared.status.TheConstants.{NO_WINDOW}

-- a window has so many columns from one on, or rows: at least one, no more than a picture, and none past the widest one
abbrev pub is_stretch : (first count : ℕ) → Bool
is_stretch first count =
    nat_le 1 count && nat_le count MAX_PICTURE_SIZE && nat_le (first + count) MAX_WIDE_PICTURE_SIZE

-- why there is no scene of a window, as a refusal of the text: a constant that a plane would have at its first pixel is
-- past the limit
abbrev pub window_fault : TileFault → SceneFault
window_fault (tile.Coefficient found) = f.Limit 0 kind.Coefficient found
window_fault (tile.Memory m) = f.Memory m

-- the first such constant, as that refusal
abbrev pub by_coefficient : Option ℤ → Option SceneFault
by_coefficient None = None
by_coefficient (Some found) = Some (window_fault (tile.Coefficient found))

-- what is found of a window, which is a scene of its own, in buffers of so much room
abbrev pub shown_answer : (room : ℕ) → SceneView → Answer
shown_answer room window =
    answer_unless_refused (by_coefficient (first_past window.solids)) (drawn_answer room (pixels_of window) window)

-- what is found of a scene's window
abbrev pub placed_answer : (room x y width height : ℕ) → SceneView → Answer
placed_answer room x y width height scene =
    if is_stretch x width && is_stretch y height then shown_answer room (tile_scene scene x y width height)
    else record { status = NO_WINDOW; found = nothing }

-- `pxplanes_window`: an element a pixel of the window, in each of two buffers
abbrev pub window_answer : List ℕ → (x y width height depths faces : ℕ) → Answer
window_answer text x y width height depths faces =
    answer_unless_refused (refusal_of text)
    (placed_answer (min depths faces) x y width height (scene_of (worded text)))

-- the number of each pixel of the window, which begins at (x, y); what lies behind them is as before
abbrev pub HoldsWindow : (x y width height : ℕ) → ((x y : ℕ) → ℕ) → (before now : List ℕ) → Type 0
HoldsWindow x y width height number before now =
    HoldsNumbers width height (λ i j. number (x + i) (y + j)) before now
