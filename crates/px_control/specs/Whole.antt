-- Operations that are held on the way through a program. Only proofs and private functions stand on it.
use Rattle.std.specs.Prelude.{ℕ, All, List}
use Rattle.px_array.specs.Arrays.{Device, HasGrid}
use Rattle.px_asm.specs.Operations.{all_made}
use Rattle.px_macro.specs.Macros.{IsLawful}
use Rattle.px_macro.specs.declared.operation.Macro.{Macro}
use Rattle.px_model.specs.Scenes.{SceneView}
use Rattle.px_sched.specs.Layouts.{layout_of, need_of}
use Rattle.px_control.specs.Program.{IsAt, columns_of, rows_of}

-- an array is as the first n broadcasts of a scene leave it, once the operations that are held are made
pub record Holds (bits : ℕ) (scene : SceneView) (n : ℕ) (held : List Macro) (device : Device) : Type 0 where
  pub pixels : HasGrid bits (columns_of scene) (rows_of scene) device.state
  pub lawful : All (λ m. IsLawful m (need_of (layout_of scene))) held
  pub reached : IsAt bits scene n (all_made held device)
