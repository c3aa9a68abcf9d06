-- The fields of a packed micro identify it.
use Rattle.px_state.proofs.Cited.{Act, act_number, act_with, arith, Bool, false, HasPlace, lines_number, memory_place}
use Rattle.px_state.proofs.Cited.{Micro, packed_bit, packed_value, refl, tree_number, tree_with, TreeOp, true, ℕ, ◌%◌}
use Rattle.px_state.proofs.Cited.{◌*◌, ◌+◌, ◌/◌, ◌<◌, ◌==◌, ◌^◌, ◌≡◌, ◌≤◌}
use Rattle.px_array.specs.declared.act.Act.TheVariants as act
use Rattle.px_state.specs.Packing.{is_micro, micro_in, packed}

pub act_back : (a : Act) → act_with (act_number a) (packed_value a) (memory_place a) ≡ a
act_back act.Nop = refl
act_back a = refl

pub tree_back : (op : TreeOp) → tree_with (tree_number op) (lines_number op) ≡ op
tree_back op = grind arith

-- the number of a bit identifies the bit
pub bit_back : (v : Bool) → (packed_bit v == 1) ≡ v
bit_back true = refl
bit_back false = refl

act_below : (a : Act) → act_number a < 256
act_below act.Nop = omega arith
act_below a = omega arith

bit_below : (v : Bool) → packed_bit v < 2
bit_below true = omega arith
bit_below false = omega arith

tree_below : (op : TreeOp) → tree_number op < 3
tree_below op = grind arith

-- each field in its bits
pub fields_in : (at number value op lines : ℕ) → at < 2 ^ 32 → number < 256 → value < 2 → op < 3
    → (word : ℕ) → word ≡ at + 2 ^ 32 * (number + 256 * (value + 256 * (op + 256 * lines)))
    → (word % 2 ^ 32 ≡ at) × (word / 2 ^ 32 % 256 ≡ number) × (word / 2 ^ 40 % 256 ≡ value)
    × (word / 2 ^ 48 % 256 ≡ op) × (word / 2 ^ 56 ≡ lines)
fields_in at number value op lines a n v o word is =
    (omega arith, omega arith, omega arith, omega arith, omega arith)

-- the micro of the fields of a micro's word is it
pub unpacked : (m : Micro) → memory_place m.act < 2 ^ 32 → micro_in (packed m) ≡ m
unfolding packed micro_in
unpacked m small =
    let fields = fields_in (memory_place m.act) (act_number m.act) (packed_bit (packed_value m.act))
    (tree_number m.tree)
    (lines_number m.tree) small (act_below m.act) (bit_below (packed_value m.act)) (tree_below m.tree) (packed m) refl
    in
    rw (
      fields.0,
      fields.1,
      fields.2,
      fields.3,
      fields.4,
      bit_back (packed_value m.act),
      act_back m.act,
      tree_back m.tree,
    ) refl

pub micro_back : (bits : ℕ) (m : Micro) → 1 ≤ bits → bits ≤ 2 ^ 32 → HasPlace bits m.act → is_micro bits (packed m)
    ≡ true
unfolding is_micro
micro_back bits m some few place = grind (arith, unpacked, packed)

pub micro_only : (bits word : ℕ) → is_micro bits word ≡ true → HasPlace bits (micro_in word).act
    × (packed (micro_in word) ≡ word)
unfolding is_micro
micro_only bits word is = grind arith
