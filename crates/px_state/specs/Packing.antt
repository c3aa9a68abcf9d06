-- A micro in one word: the place in its bits 0 to 31, then bytes: the act, its value, what the tree does, and
-- the lines.
-- Clauses of public calls stand on it.
use Rattle.std.specs.Prelude.{◌≡◌, ℕ, ◌+◌, ◌*◌, ◌/◌, ◌%◌, ◌^◌, ◌≤◌, ◌==◌, ◌&&◌, nat_lt, Bool, false, true}
use Rattle.std.specs.Prelude.{if◌then◌else◌}
use Rattle.px_array.specs.Acts.{HasPlace}
use Rattle.px_array.specs.declared.act.Act.{Act}
use Rattle.px_array.specs.declared.act.Act.TheVariants as act
use Rattle.px_array.specs.declared.micro.Micro.{Micro}
use Rattle.px_array.specs.declared.micro.TreeOp.{TreeOp}
use Rattle.px_array.specs.declared.micro.TreeOp.TheVariants as tree

-- the number of an act, counted from 1
abbrev pub act_number : Act → ℕ
act_number act.Nop = 1
act_number act.EnableAll = 2
act_number (act.EnableCarry v) = 3
act_number (act.EnableTree v) = 4
act_number (act.EnableBit at v) = 5
act_number (act.SetCarry v) = 6
act_number (act.Fetch at) = 7
act_number (act.StoreTree at) = 8
act_number (act.StoreLatch at) = 9
act_number (act.StoreConst at v) = 10
act_number (act.Toggle at) = 11
act_number (act.CarryTree at) = 12
act_number (act.CarryLatch at) = 13
act_number (act.AddTree at) = 14

-- the value that an act names, and otherwise 0
abbrev pub packed_value : Act → Bool
packed_value (act.EnableCarry v) = v
packed_value (act.EnableTree v) = v
packed_value (act.EnableBit at v) = v
packed_value (act.SetCarry v) = v
packed_value (act.StoreConst at v) = v
packed_value a = false

-- the place of memory that an act names, and otherwise 0
abbrev pub memory_place : Act → ℕ
memory_place (act.EnableBit at v) = at
memory_place (act.Fetch at) = at
memory_place (act.StoreTree at) = at
memory_place (act.StoreLatch at) = at
memory_place (act.StoreConst at v) = at
memory_place (act.Toggle at) = at
memory_place (act.CarryTree at) = at
memory_place (act.CarryLatch at) = at
memory_place (act.AddTree at) = at
memory_place a = 0

-- what the tree does: nothing, a clear, or a feed
abbrev pub tree_number : TreeOp → ℕ
tree_number tree.Hold = 0
tree_number tree.Clear = 1
tree_number (tree.Feed a b c) = 2

abbrev pub packed_bit : Bool → ℕ
packed_bit v = if v then 1 else 0

-- the lines a, b and c of a feed, in bits 0, 1 and 2
abbrev pub lines_number : TreeOp → ℕ
lines_number (tree.Feed a b c) = packed_bit a + 2 * packed_bit b + 4 * packed_bit c
lines_number op = 0

-- the word of a micro
unfoldable pub packed : Micro → ℕ
packed m =
    memory_place m.act + 2 ^ 32 * (act_number m.act + 256 * (packed_bit (packed_value m.act)
    + 256 * (tree_number m.tree + 256 * lines_number m.tree)))

-- a word has the fields of a micro, each in its bits
pub record HasFields (word : ℕ) (m : Micro) : Type 0 where
  pub place : word % 2 ^ 32 ≡ memory_place m.act
  pub number : word / 2 ^ 32 % 256 ≡ act_number m.act
  pub value : word / 2 ^ 40 % 256 ≡ packed_bit (packed_value m.act)
  pub tree : word / 2 ^ 48 % 256 ≡ tree_number m.tree
  pub lines : word / 2 ^ 56 ≡ lines_number m.tree

-- words that are the same have the fields of one micro alone
abbrev pub FieldsTellTheMicro : Type 0
FieldsTellTheMicro = (word : ℕ) (m n : Micro) → HasFields word m → HasFields word n → m ≡ n

-- the act of a number, with its value and its place where it names them
abbrev pub act_with : (number : ℕ) → (v : Bool) → (at : ℕ) → Act
act_with number v at =
    if number == 2 then act.EnableAll else if number == 3 then act.EnableCarry v else if number ==
    4 then act.EnableTree v else
    if number == 5 then act.EnableBit at v else if number == 6 then act.SetCarry v else if number ==
    7 then act.Fetch at else
    if number == 8 then act.StoreTree at else if number == 9 then act.StoreLatch at else
    if number == 10 then act.StoreConst at v else if number == 11 then act.Toggle at else
    if number == 12 then act.CarryTree at else if number == 13 then act.CarryLatch at else
    if number == 14 then act.AddTree at else act.Nop

-- what the tree does, by its number and its lines
abbrev pub tree_with : (number lines : ℕ) → TreeOp
tree_with number lines =
    if number == 1 then tree.Clear else
    if number == 2 then tree.Feed (lines % 2 == 1) (lines / 2 % 2 == 1) (lines / 4 % 2 == 1) else tree.Hold

-- the micro whose fields are in a word, if it is that of a micro
unfoldable pub micro_in : (word : ℕ) → Micro
micro_in word = record {
  tree = tree_with (word / 2 ^ 48 % 256) (word / 2 ^ 56);
  act = act_with (word / 2 ^ 32 % 256) (word / 2 ^ 40 % 256 == 1) (word % 2 ^ 32);
}

-- whether a word is that of a micro for pixels of so many memory bits
unfoldable pub is_micro : (bits word : ℕ) → Bool
is_micro bits word = (packed (micro_in word) == word) && nat_lt (memory_place (micro_in word).act) bits

-- the words of micros are those of the micros that are found in them, and no others are
pub record AreUnpacked : Type 0 where
  pub back : (bits : ℕ) (m : Micro) → 1 ≤ bits → bits ≤ 2 ^ 32 → HasPlace bits m.act
      → (is_micro bits (packed m) ≡ true) × (micro_in (packed m) ≡ m)
  pub only : (bits word : ℕ) → is_micro bits word ≡ true → HasPlace bits (micro_in word).act
      × (packed (micro_in word) ≡ word)
