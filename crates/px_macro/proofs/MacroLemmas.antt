-- What holds of every operation.
use Rattle.px_num.proofs.Basics.{◌≡◌, ℕ, ◌≤◌, Bool, if◌then◌else◌, List, [], ◌∷◌, length, slice_set, refl}
use Rattle.px_num.proofs.Basics.{arith, length-set}
use Rattle.px_num.proofs.ListLaws.{length-tabulate}
use Rattle.px_macro.specs.Fields.{with_number}
use Rattle.px_macro.specs.Macros.{AreOfOneLength, IsField, IsLawfulInMore, MeaningsJoin, MemoryStaysLong, after_macro}
use Rattle.px_macro.specs.declared.field.Field.{Field}

field_in_more : (f : Field) (bits more : ℕ) → bits ≤ more → IsField f bits → IsField f more
field_in_more f bits more order h = grind arith

fields_in_more : (f g : Field) (bits more : ℕ) → bits ≤ more → AreOfOneLength f g bits → AreOfOneLength f g more
fields_in_more f g bits more order h = grind (arith, field_in_more)

pub is_lawful_in_more : IsLawfulInMore
is_lawful_in_more op bits more order h = grind (arith, field_in_more, fields_in_more)

length_put : (enable : Bool) (f : Field) (n : ℕ) (memory : List Bool)
    → length (if enable then with_number f n memory else memory) ≡ length memory
length_put enable f n memory = grind (arith, length-tabulate)

length_put_bit : (enable v : Bool) (at : ℕ) (memory : List Bool)
    → length (if enable then slice_set memory at v else memory) ≡ length memory
length_put_bit enable v at memory = grind (arith, length-set)

pub memory_stays_long : MemoryStaysLong
memory_stays_long op x y p = grind (arith, length_put, length_put_bit)

pub meanings_join : MeaningsJoin
meanings_join [] ns x y p = refl
meanings_join (m ∷ ms) ns x y p = meanings_join ms ns x y (after_macro m x y p)
