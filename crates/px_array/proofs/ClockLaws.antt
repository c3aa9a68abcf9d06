-- What a clock does to one pixel, and what a run of clocks keeps.
use Rattle.px_num.proofs.Basics.{◌≡◌, ℕ, ◌+◌, ◌^◌, ◌<◌, Bool, true, false, List, [], ◌∷◌, ◌++◌, length, slice_set}
use Rattle.px_num.proofs.Basics.{if◌then◌else◌, refl, ◌∙◌, arith, length-append, length-set, length-replicate}
use Rattle.px_num.proofs.Basics.{get_or-replicate}
use Rattle.px_num.proofs.ListLaws.{get_or-tabulate, length-tabulate}
use Rattle.px_array.specs.Acts.{after_act}
use Rattle.px_array.specs.Pixels.{PixelState}
use Rattle.px_array.specs.declared.act.Act.{Act}
use Rattle.px_array.specs.declared.act.Act.TheVariants.{StoreTree, StoreLatch, StoreConst, Toggle, AddTree}
use Rattle.px_tree.specs.Nodes.{TreeState, leaf_output}
use Rattle.px_array.specs.Arrays.{Device, HasGrid, State, pixel_at, zero_state}
use Rattle.px_array.specs.Clocks.{after_clock, after_clocks, after_tree_op, all_clocked}
use Rattle.px_array.specs.declared.micro.Micro.{Micro}
use Rattle.px_array.specs.declared.micro.TreeOp.{TreeOp}
use Rattle.px_array.specs.declared.micro.TreeOp.TheVariants.{Hold, Clear, Feed}

-- each pixel does the act by itself, with the output of its leaf from before the clock
pub pixel_at-after_clock : (m : Micro) (s : State) (place : ℕ) → place < 2 ^ (s.tree.nx + s.tree.ny)
    → pixel_at (after_clock m s) place ≡ after_act m.act (leaf_output s.tree place) (pixel_at s place)
pixel_at-after_clock m s place in_grid = grind (arith, get_or-tabulate)

-- a run in two parts
pub after_clocks-append : (ms ns : List Micro) (s : State) → after_clocks (ms ++ ns) s
    ≡ after_clocks ns (after_clocks ms s)
after_clocks-append [] ns s = refl
after_clocks-append (m ∷ ms) ns s = after_clocks-append ms ns (after_clock m s)

pub all_clocked-append : (ms ns : List Micro) (d : Device) → all_clocked (ms ++ ns) d
    ≡ all_clocked ns (all_clocked ms d)
all_clocked-append ms ns d = grind (arith, length-append, after_clocks-append)

-- an operation keeps the size of the tree
pub nx-after_tree_op : (op : TreeOp) (tree : TreeState) → (after_tree_op op tree).nx ≡ tree.nx
nx-after_tree_op Hold tree = refl
nx-after_tree_op Clear tree = refl
nx-after_tree_op (Feed a b c) tree = refl

pub ny-after_tree_op : (op : TreeOp) (tree : TreeState) → (after_tree_op op tree).ny ≡ tree.ny
ny-after_tree_op Hold tree = refl
ny-after_tree_op Clear tree = refl
ny-after_tree_op (Feed a b c) tree = refl

-- and so does a run
pub nx-after_clocks : (ms : List Micro) (s : State) → (after_clocks ms s).tree.nx ≡ s.tree.nx
nx-after_clocks [] s = refl
nx-after_clocks (m ∷ ms) s = nx-after_clocks ms (after_clock m s) ∙ nx-after_tree_op m.tree s.tree

pub ny-after_clocks : (ms : List Micro) (s : State) → (after_clocks ms s).tree.ny ≡ s.tree.ny
ny-after_clocks [] s = refl
ny-after_clocks (m ∷ ms) s = ny-after_clocks ms (after_clock m s) ∙ ny-after_tree_op m.tree s.tree

-- an act keeps the number of memory bits
pub length-stored : (enable v : Bool) (memory : List Bool) (at : ℕ)
    → length (if enable then slice_set memory at v else memory) ≡ length memory
length-stored true v memory at = length-set memory at v
length-stored false v memory at = refl

pub length-after_act : (act : Act) (t : Bool) (p : PixelState) → length (after_act act t p).memory ≡ length p.memory
length-after_act (StoreTree at) t p = length-stored p.enable _ p.memory at
length-after_act (StoreLatch at) t p = length-stored p.enable _ p.memory at
length-after_act (StoreConst at v) t p = length-stored p.enable _ p.memory at
length-after_act (Toggle at) t p = length-stored p.enable _ p.memory at
length-after_act (AddTree at) t p = length-stored p.enable _ p.memory at
length-after_act act t p = refl

pub grid_of_zero_state : (bits nx ny : ℕ) → HasGrid bits nx ny (zero_state bits nx ny)
grid_of_zero_state bits nx ny = grind (arith, length-replicate, get_or-replicate)

pub grid_after_clock : (bits nx ny : ℕ) (m : Micro) (s : State)
    → HasGrid bits nx ny s → HasGrid bits nx ny (after_clock m s)
grid_after_clock bits nx ny m s grid =
    grind (arith, nx-after_tree_op, ny-after_tree_op, length-tabulate, pixel_at-after_clock, length-after_act)

pub grid_after_clocks : (bits nx ny : ℕ) (ms : List Micro) (s : State)
    → HasGrid bits nx ny s → HasGrid bits nx ny (after_clocks ms s)
grid_after_clocks bits nx ny [] s grid = grid
grid_after_clocks bits nx ny (m ∷ ms) s grid =
    grid_after_clocks bits nx ny ms (after_clock m s) (grid_after_clock bits nx ny m s grid)
