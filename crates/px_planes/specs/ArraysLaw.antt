-- What the law of the arrays says of each pixel. Clauses of public calls stand on it.
use Rattle.std.specs.Prelude.{◌≡◌, ℕ, ◌+◌, ◌^◌, ◌<◌, List, [], ◌∷◌}
use Rattle.px_array.specs.Arrays.{State, pixel_at}
use Rattle.px_array.specs.Clocks.{after_clocks, after_tree_op}
use Rattle.px_array.specs.declared.micro.Micro.{Micro}
use Rattle.px_array.specs.Acts.{after_act}
use Rattle.px_array.specs.Pixels.{PixelState}
use Rattle.px_tree.specs.Nodes.{TreeState, leaf_output}

-- what some micros make of one pixel, which sees of the others nothing, and of the tree its own leaf
abbrev pub alone_after : List Micro → TreeState → (place : ℕ) → PixelState → PixelState
alone_after [] tree place p = p
alone_after (m ∷ ms) tree place p =
    alone_after ms (after_tree_op m.tree tree) place (after_act m.act (leaf_output tree place) p)

-- after some micros each pixel of a grid is what they make of it alone
abbrev pub EachPixelIsAlone : Type 0
EachPixelIsAlone = (micros : List Micro) (start : State) (place : ℕ) → place < 2 ^ (start.tree.nx + start.tree.ny)
    → pixel_at (after_clocks micros start) place ≡ alone_after micros start.tree place (pixel_at start place)
