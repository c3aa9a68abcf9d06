-- The lines on which a linear form comes into the tree, and the tree after so many feeds of them. Clauses of
-- public calls stand on it.
use Rattle.std.specs.Prelude.{ℕ, zero, suc, ◌+◌, ◌-◌, ℤ, Bool, false, if◌then◌else◌, nat_lt}
use Rattle.px_num.specs.Bits.{bit_of}
use Rattle.px_num.specs.declared.linear.Linear.{Linear}
use Rattle.px_tree.specs.declared.lines.Lines.{Lines}
use Rattle.px_tree.specs.Nodes.{TreeState, after_feed, cleared}

-- bit s - delay of an integer, or 0 before it
abbrev pub delayed_bit : (delay : ℕ) → ℤ → (s : ℕ) → Bool
delayed_bit delay v s = if nat_lt s delay then false else bit_of v (s - delay)

-- the lines of feed s, counted from 0: each coefficient from its lowest bit on, a and b so much later
-- that a bit of theirs meets the bit of the same weight of the sum that comes down the tree
abbrev pub lines_at : Linear → (nx ny s : ℕ) → Lines
lines_at form nx ny s = record {
  a = delayed_bit (nx - 1) form.a s;
  b = delayed_bit (nx + ny - 1) form.b s;
  c = bit_of form.c s;
}

-- the tree after one feed of such lines
abbrev pub after_lines : Lines → TreeState → TreeState
after_lines lines tree = after_feed lines.a lines.b lines.c tree

-- the tree after a clear and so many feeds of one form
abbrev pub fed_form : Linear → (nx ny s : ℕ) → TreeState
fed_form form nx ny zero = cleared nx ny
fed_form form nx ny (suc s) = after_lines (lines_at form nx ny s) (fed_form form nx ny s)
