-- The lines of which answers are made, each a function of what it shows: a number, a pixel, a node or a broadcast.
-- Clauses of public calls stand on it.
use Rattle.std.specs.Prelude.{ℕ, ◌+◌, ◌^◌, Bool, ◌&&◌, List, [], ◌∷◌, ◌++◌, codes, decimal, if◌then◌else◌, map}
use Rattle.std.specs.Prelude.{nat_le, nat_lt}
use Rattle.px_num.specs.Bits.{bit_at}
use Rattle.px_array.specs.Arrays.{State, levels_of, pixel_of}
use Rattle.px_array.specs.declared.micro.Micro.{Micro}
use Rattle.px_array.specs.declared.micro.TreeOp.{TreeOp}
use Rattle.px_array.specs.declared.micro.TreeOp.TheVariants as t
use Rattle.px_macro.specs.Fields.{number_in}
use Rattle.px_macro.specs.declared.field.Field.{Field}
use Rattle.px_array.specs.declared.act.Act.{Act}
use Rattle.px_array.specs.declared.act.Act.TheVariants as a
use Rattle.px_sched.specs.Layouts.{LayoutView, depth_part, number_part}
use Rattle.px_tree.specs.Nodes.{leaf_bit, node_at}

-- a text, a number, and the end of the line
abbrev pub line_with_number : List ℕ → ℕ → List ℕ
line_with_number text n = text ++ decimal n ++ codes "\n"

abbrev pub now_line : (now : ℕ) → List ℕ
now_line now = line_with_number (codes "at ") now

-- the answer to a line that is none of the commands, or asks for what is not there
abbrev pub unknown_line : (number : ℕ) → List ℕ
unknown_line number = line_with_number (codes "? line ") number

abbrev pub digit : Bool → ℕ
digit b = if b then 49 else 48

abbrev pub flag : Bool → List ℕ
flag b = digit b ∷ []

-- the memory bits of a pixel from bit 0 on, and then enable, carry, latch and the bit of its leaf
abbrev pub pixel_line : State → (x y : ℕ) → List ℕ
pixel_line s x y =
    let p = pixel_of s x y in
    codes "pixel " ++ decimal x ++ codes " " ++ decimal y ++ codes " m " ++ map digit p.memory
    ++ codes " e " ++ flag p.enable ++ codes " k " ++ flag p.carry ++ codes " l " ++ flag p.latch
    ++ codes " t " ++ flag (leaf_bit s.tree x y) ++ codes "\n"

-- the depth and the face number of a key
abbrev pub key_text : LayoutView → Field → List Bool → List ℕ
key_text l key memory = decimal (number_in (depth_part l key) memory) ++ codes " "
    ++ decimal (number_in (number_part l key) memory)

-- the keys of a pixel, and whether its candidate is alive and an odd number of faces was passed
abbrev pub field_line : LayoutView → State → (x y : ℕ) → List ℕ
field_line l s x y =
    let memory = (pixel_of s x y).memory in
    codes "field " ++ decimal x ++ codes " " ++ decimal y ++ codes " b " ++ key_text l l.key_b memory
    ++ codes " t " ++ key_text l l.key_t memory
    ++ codes " alive " ++ flag (bit_at memory l.alive) ++ codes " par " ++ flag (bit_at memory l.par) ++ codes "\n"

-- the two latches of a node
abbrev pub tree_line : State → (level index : ℕ) → List ℕ
tree_line s level index =
    let node = node_at s.tree level index in
    codes "tree " ++ decimal level ++ codes " " ++ decimal index ++ codes " out " ++ flag node.output
    ++ codes " carry " ++ flag node.carry ++ codes "\n"

abbrev pub tree_text : TreeOp → List ℕ
tree_text t.Hold = codes "hold"
tree_text t.Clear = codes "clear"
tree_text (t.Feed x y z) = codes "feed " ++ flag x ++ flag y ++ flag z

abbrev pub act_text : Act → List ℕ
act_text a.Nop = codes "nop"
act_text a.EnableAll = codes "enable-all"
act_text (a.EnableCarry v) = codes "enable-carry " ++ flag v
act_text (a.EnableTree v) = codes "enable-tree " ++ flag v
act_text (a.EnableBit at v) = codes "enable-bit " ++ decimal at ++ codes " " ++ flag v
act_text (a.SetCarry v) = codes "set-carry " ++ flag v
act_text (a.Fetch at) = codes "fetch " ++ decimal at
act_text (a.StoreTree at) = codes "store-tree " ++ decimal at
act_text (a.StoreLatch at) = codes "store-latch " ++ decimal at
act_text (a.StoreConst at v) = codes "store-const " ++ decimal at ++ codes " " ++ flag v
act_text (a.Toggle at) = codes "toggle " ++ decimal at
act_text (a.CarryTree at) = codes "carry-tree " ++ decimal at
act_text (a.CarryLatch at) = codes "carry-latch " ++ decimal at
act_text (a.AddTree at) = codes "add-tree " ++ decimal at

-- a broadcast, with its clock counted from 0
abbrev pub trace_line : (clock : ℕ) → Micro → List ℕ
trace_line clock m = decimal clock ++ codes ": " ++ tree_text m.tree ++ codes " " ++ act_text m.act ++ codes "\n"

-- a line for each broadcast, of which the first has this clock
abbrev pub trace_lines : (clock : ℕ) → List Micro → List ℕ
trace_lines clock [] = []
trace_lines clock (m ∷ ms) = trace_line clock m ++ trace_lines (clock + 1) ms

-- whether a pixel is one of the grid, and a node one of the tree
abbrev pub is_pixel : State → (x y : ℕ) → Bool
is_pixel s x y = nat_lt x (2 ^ s.tree.nx) && nat_lt y (2 ^ s.tree.ny)

abbrev pub is_node : State → (level index : ℕ) → Bool
is_node s level index = nat_le 1 level && nat_le level (levels_of s.tree) && nat_lt index (2 ^ level)
