-- The array after some broadcasts of a scene keeps the scene's columns and rows.
use Rattle.px_num.proofs.Basics.{◌≡◌, ℕ, take}
use Rattle.px_control.proofs.Words.{columns_of, nx-after_clocks, ny-after_clocks, program, rows_of, SceneView}
use Rattle.px_control.proofs.Words.{zero_state}
use Rattle.px_control.specs.Program.{array_after}

pub columns_at : (bits : ℕ) (scene : SceneView) (n : ℕ) → (array_after bits scene n).state.tree.nx ≡ columns_of scene
unfolding array_after
columns_at bits scene n = nx-after_clocks (take n (program scene)) (zero_state bits (columns_of scene) (rows_of scene))

pub rows_at : (bits : ℕ) (scene : SceneView) (n : ℕ) → (array_after bits scene n).state.tree.ny ≡ rows_of scene
unfolding array_after
rows_at bits scene n = ny-after_clocks (take n (program scene)) (zero_state bits (columns_of scene) (rows_of scene))
