-- An array that can carry out operations, and one that can be turned back. Only proofs and private functions
-- stand on it.
use Rattle.std.specs.Prelude.{ℕ, List, Option}
use Rattle.px_array.specs.Arrays.{Device, HasGrid}
use Rattle.px_array.specs.Slots.{ArrayView, IsSaved}
use Rattle.px_tree.specs.Nodes.{IsGrid}

-- an array of pixels of so many bits is open
pub record IsReady (bits : ℕ) (array : ArrayView) : Type 0 where
  pub grid : IsGrid array.device.state.tree.nx array.device.state.tree.ny
  pub pixels : HasGrid bits array.device.state.tree.nx array.device.state.tree.ny array.device.state

-- each of the four slots is saved
pub record AreSaved (slots : List (Option Device)) : Type 0 where
  pub first : IsSaved slots 0
  pub second : IsSaved slots 1
  pub third : IsSaved slots 2
  pub fourth : IsSaved slots 3
