-- The shown pixels as they are counted, row by row. Only proofs and private functions stand on it.
use Rattle.std.specs.Prelude.{ℕ, ◌+◌, ◌≤◌}
use Rattle.px_scene.specs.Scenes.{SceneView}
use Rattle.px_sample.specs.declared.drawing.Shown.{Shown}
use Rattle.px_sample.specs.Samples.{one_at, row_sum, shown_depth_at, sum_over}

abbrev pub none_shown : Shown
none_shown = record { pixels = 0; depths = 0 }

abbrev pub shown_together : Shown → Shown → Shown
shown_together first more = record { pixels = first.pixels + more.pixels; depths = first.depths + more.depths }

-- of one pixel, of so many pixels of row y, and of so many rows
abbrev pub shown_at : SceneView → (x y : ℕ) → Shown
shown_at scene x y = record { pixels = one_at scene x y; depths = shown_depth_at scene x y }

abbrev pub shown_in_row : SceneView → (width y : ℕ) → Shown
shown_in_row scene width y = record {
  pixels = row_sum (one_at scene) width y;
  depths = row_sum (shown_depth_at scene) width y;
}

abbrev pub shown_within : SceneView → (width height : ℕ) → Shown
shown_within scene width height = record {
  pixels = sum_over (one_at scene) width height;
  depths = sum_over (shown_depth_at scene) width height;
}

pub record IsShownAtMost (n : ℕ) (shown : Shown) : Type 0 where
  pub pixels : shown.pixels ≤ n
  pub depths : shown.depths ≤ n
