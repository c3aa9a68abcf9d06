-- Rows of words in heap order: the children of the nodes in word h are in the words 2h and 2h + 1.
-- Only proofs and private functions stand on it.
use Rattle.std.specs.Prelude.{◌≡◌, ℕ, ◌+◌, ◌*◌, ◌/◌, ◌%◌, ◌<◌, ◌≤◌, ◌^◌, Bool, true, false, if◌then◌else◌, cond}
use Rattle.std.specs.Prelude.{◌&&◌, eqb, nat_lt, List, length, slice_index, get_or}
use Rattle.px_num.specs.Bits.{nat_bit}
use Rattle.px_tree.specs.declared.node.Node.{Node}
use Rattle.px_tree.specs.declared.lines.Lines.{Lines}
use Rattle.px_tree.specs.Nodes.{next_node}
use Rattle.px_rows.specs.Rows.{row_bit}

-- the two latches of the node at a place, from the row of outputs and the row of carries
abbrev pub node_of : List ℕ → List ℕ → ℕ → Node
node_of outputs carries p = record { output = row_bit outputs p; carry = row_bit carries p }

-- word w after a feed: `parent` has the bits of the word of its parents, `line` the lines of its own nodes
pub record IsFedWord (line parent : ℕ → Bool) (w old output carry : ℕ) : Type 0 where
  pub output_bit : (j : ℕ) → j < 64
      → nat_bit output j ≡ (next_node (eqb (j % 2) 1) (parent (32 * (w % 2) + j / 2)) (line j) (nat_bit old j)).output
  pub carry_bit : (j : ℕ) → j < 64
      → nat_bit carry j ≡ (next_node (eqb (j % 2) 1) (parent (32 * (w % 2) + j / 2)) (line j) (nat_bit old j)).carry

-- the outputs and the carries of a heap's nodes, as rows of words
pub record Rows : Type 0 where
  pub outputs : List ℕ
  pub carries : List ℕ

abbrev pub rows : (outputs carries : List ℕ) → Rows
rows outputs carries = record { outputs = outputs; carries = carries }

-- the words outside from .. to are as they were
pub record IsSameBut (from to : ℕ) (old new : List ℕ) : Type 0 where
  pub below : (k : ℕ) → k < from → slice_index new k ≡ slice_index old k
  pub above : (k : ℕ) → to ≤ k → slice_index new k ≡ slice_index old k

-- two words were fed, of which `both` has the parents' bits
pub record IsFedTwo (line : ℕ → ℕ → Bool) (at : ℕ) (both : List ℕ) (old new : Rows) : Type 0 where
  pub output_bit : (i j : ℕ) → i < 2 → j < 64 → nat_bit (slice_index new.outputs (at + i)) j
      ≡ (next_node (eqb (j % 2) 1) (nat_bit (slice_index both i) j) (line i j)
      (nat_bit (slice_index old.carries (at + i)) j)).output
  pub carry_bit : (i j : ℕ) → i < 2 → j < 64 → nat_bit (slice_index new.carries (at + i)) j
      ≡ (next_node (eqb (j % 2) 1) (nat_bit (slice_index both i) j) (line i j)
      (nat_bit (slice_index old.carries (at + i)) j)).carry
  pub outputs_rest : IsSameBut at (at + 2) old.outputs new.outputs
  pub carries_rest : IsSameBut at (at + 2) old.carries new.carries

-- the even bits of words from .. to are 0
pub record HasOdd (from to : ℕ) (row : List ℕ) : Type 0 where
  pub each : (w j : ℕ) → from ≤ w → w < to → j < 64 → j % 2 ≡ 0 → nat_bit (slice_index row w) j ≡ false

-- the words from .. to were fed by one line, from the words before
pub record IsFed (line : Bool) (from to : ℕ) (old new : Rows) : Type 0 where
  pub fed : (w : ℕ) → from ≤ w → w < to → IsFedWord (λ j. line) (nat_bit (slice_index old.outputs (w / 2))) w
      (slice_index old.carries w) (slice_index new.outputs w) (slice_index new.carries w)
  pub outputs_rest : IsSameBut from to old.outputs new.outputs
  pub carries_rest : IsSameBut from to old.carries new.carries

-- a feed by this line leaves the words from .. to as they are
abbrev pub IsAtRest : Bool → (from to : ℕ) → List ℕ → List ℕ → Type 0
IsAtRest line from to outputs carries = IsFed line from to (rows outputs carries) (rows outputs carries)

-- the bits of a word of parents, where word 0 has line c as bit 1 and bit 0 is 0
abbrev pub parent_bit : Bool → List ℕ → ℕ → ℕ → Bool
parent_bit c outputs h i = cond (eqb h 0 && nat_lt i 2) (c && eqb i 1) (nat_bit (slice_index outputs h) i)

-- the first four words were fed
pub record IsFedFirst (lines : List ℕ) (c : Bool) (old new : Rows) : Type 0 where
  pub fed : (w : ℕ) → w < 4 → IsFedWord (nat_bit (slice_index lines w)) (parent_bit c old.outputs (w / 2)) w
      (slice_index old.carries w) (slice_index new.outputs w) (slice_index new.carries w)
  pub outputs_rest : IsSameBut 0 4 old.outputs new.outputs
  pub carries_rest : IsSameBut 0 4 old.carries new.carries

-- the line of the node at a place
abbrev pub line_at : Bool → Bool → ℕ → ℕ → Bool
line_at a b first_b p = cond (nat_lt p first_b) a b

-- the same, or 0 where no odd node stands
abbrev pub line_bit : Bool → Bool → ℕ → ℕ → Bool
line_bit a b first_b p = cond (nat_lt p 2) false (eqb (p % 2) 1 && line_at a b first_b p)

-- the lines of the odd nodes of the first four words
pub record HasLines (a b : Bool) (first_b : ℕ) (lines : List ℕ) : Type 0 where
  pub each : (w j : ℕ) → w < 4 → j < 64 → nat_bit (slice_index lines w) j ≡ line_bit a b first_b (64 * w + j)

-- rows that stand for a heap of nodes: even nodes have no carry, and places 0 and 1 are 0
pub record IsHeap (outputs carries : List ℕ) : Type 0 where
  pub same : length carries ≡ length outputs
  pub room : 4 ≤ length outputs
  pub fours : length outputs % 4 ≡ 0
  pub odd : HasOdd 0 (length outputs) carries
  pub zero_output : nat_bit (slice_index outputs 0) 0 ≡ false
  pub one_output : nat_bit (slice_index outputs 0) 1 ≡ false
  pub one_carry : nat_bit (slice_index carries 0) 1 ≡ false

-- what a feed makes of the node at a place
abbrev pub next_row : Bool → Bool → Bool → ℕ → List ℕ → List ℕ → ℕ → Node
next_row a b c first_b outputs carries p =
    cond (nat_lt p 2) (node_of outputs carries p)
    (next_node (eqb (p % 2) 1) (cond (nat_lt p 4) c (row_bit outputs (p / 2))) (line_at a b first_b p)
    (row_bit carries p))

-- every node was fed
pub record IsFedHeap (a b c : Bool) (first_b : ℕ) (old new : Rows) : Type 0 where
  pub heap : IsHeap new.outputs new.carries
  pub node : (p : ℕ) → p < 64 * length old.outputs
      → node_of new.outputs new.carries p ≡ next_row a b c first_b old.outputs old.carries p

-- level u + 7 is the words from 2^(u + 1) on and below 2^(u + 2); this is its line
abbrev pub level_line : ℕ → Lines → ℕ → Bool
level_line nx lines u = if nat_lt nx (u + 7) then lines.b else lines.a

-- Which levels from 7 on did not move in the last feed, which was by these lines. A level is at rest under its line
-- where neither it nor the level of its parents moved.
pub record AreStill (nx : ℕ) (lines : Lines) (still : List Bool) (outputs carries : List ℕ) : Type 0 where
  pub rest : (u : ℕ) → u + 1 < length still → get_or still (u + 1) false ≡ true → get_or still u false ≡ true
      → IsAtRest (level_line nx lines (u + 1)) (2 ^ (u + 2)) (2 ^ (u + 3)) outputs carries
