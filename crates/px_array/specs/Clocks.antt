-- One clock of an array, and a run of clocks. Clauses of public calls stand on it.
use Rattle.std.specs.Prelude.{ℕ, ◌+◌, ◌^◌, All, List, [], ◌∷◌, length, slice_index_or}
use Rattle.px_num.specs.Lists.{tabulate}
use Rattle.px_array.specs.Acts.{HasPlace, after_act}
use Rattle.px_array.specs.Pixels.{PixelState}
use Rattle.px_array.specs.declared.act.Act.{Act}
use Rattle.px_tree.specs.Nodes.{TreeState, after_feed, cleared, leaf_output}
use Rattle.px_array.specs.Arrays.{Device, State, no_pixel}
use Rattle.px_array.specs.declared.micro.Micro.{Micro}
use Rattle.px_array.specs.declared.micro.TreeOp.{TreeOp}
use Rattle.px_array.specs.declared.micro.TreeOp.TheVariants.{Hold, Clear, Feed}

-- what an operation makes of the tree
abbrev pub after_tree_op : TreeOp → TreeState → TreeState
after_tree_op Hold tree = tree
after_tree_op Clear tree = cleared tree.nx tree.ny
after_tree_op (Feed a b c) tree = after_feed a b c tree

-- every pixel after an act, each by the output of its leaf in the tree
abbrev pub acted : Act → TreeState → List PixelState → List PixelState
acted act tree pixels =
    tabulate (2 ^ (tree.nx + tree.ny)) (λ place.
    after_act act (leaf_output tree place) (slice_index_or pixels place no_pixel))

-- one clock: pixels and nodes from the state before it
abbrev pub after_clock : Micro → State → State
after_clock m s = record { pixels = acted m.act s.tree s.pixels; tree = after_tree_op m.tree s.tree }

-- a clock for each micro, one after another
abbrev pub after_clocks : List Micro → State → State
after_clocks [] s = s
after_clocks (m ∷ ms) s = after_clocks ms (after_clock m s)

-- one clock, which is counted
abbrev pub clocked : Micro → Device → Device
clocked m d = record d { state = after_clock m d.state; clocks = d.clocks + 1 }

abbrev pub all_clocked : List Micro → Device → Device
all_clocked ms d = record d { state = after_clocks ms d.state; clocks = d.clocks + length ms }

-- the place that each act names, if any, is below the number of memory bits
abbrev pub HavePlaces : ℕ → List Micro → Type 0
HavePlaces bits ms = All (λ m. HasPlace bits m.act) ms
