-- The meaning of each operation on one pixel, and which operations are lawful. Clauses of public calls stand on it.
use Rattle.std.specs.Prelude.{◌≡◌, ℕ, ◌+◌, ◌^◌, ◌<◌, ◌≤◌, ⊤, ◌⊎◌, pos, ◌+ℤ◌, Bool, true, not, ◌&&◌}
use Rattle.std.specs.Prelude.{if◌then◌else◌, nat_le, nat_lt, List, [], ◌∷◌, ◌++◌, length, slice_set}
use Rattle.std.specs.Bool.{beq}
use Rattle.std.specs.Int.{is_negative}
use Rattle.px_num.specs.Bits.{bit_at, modulo}
use Rattle.px_num.specs.Forms.{IsInTreeRange, value_at}
use Rattle.px_macro.specs.Fields.{number_in, with_number}
use Rattle.px_macro.specs.declared.field.Field.{Field}
use Rattle.px_macro.specs.declared.operation.Macro.{Macro}
use Rattle.px_macro.specs.declared.operation.Macro.TheVariants.{All, KeepSign, KeepBit, LoadLinear, KeepAtMost}
use Rattle.px_macro.specs.declared.operation.Macro.TheVariants.{AddLinear, LoadConst, SetBit, Toggle, Copy}
use Rattle.px_macro.specs.declared.operation.Macro.TheVariants.{KeepLess}

-- what an operation speaks of: the memory of a pixel, and whether it is enabled
pub record PixelBits : Type 0 where
  pub memory : List Bool
  pub enable : Bool

-- where a test fails, the pixel is enabled no longer
abbrev pub keep : Bool → PixelBits → PixelBits
keep test p = record p { enable = p.enable && test }

-- where the pixel is enabled, the field takes the number
abbrev pub with_field : Field → ℕ → PixelBits → PixelBits
with_field field number p = record p { memory = if p.enable then with_number field number p.memory else p.memory }

-- where the pixel is enabled, the bit at a place becomes v
abbrev pub put_bit : ℕ → Bool → PixelBits → PixelBits
put_bit at v p = record p { memory = if p.enable then slice_set p.memory at v else p.memory }

-- what an operation leaves of pixel (x, y)
abbrev pub after_macro : Macro → (x y : ℕ) → PixelBits → PixelBits
after_macro All x y p = record p { enable = true }
after_macro (KeepSign form) x y p = keep (not (is_negative (value_at form x y))) p
after_macro (KeepBit at v) x y p = keep (beq (bit_at p.memory at) v) p
after_macro (LoadLinear form f) x y p = with_field f (modulo (value_at form x y) f.len) p
after_macro (KeepAtMost form f) x y p = keep (nat_le (modulo (value_at form x y) f.len) (number_in f p.memory)) p
after_macro (AddLinear form f) x y p = with_field f (modulo (pos (number_in f p.memory) +ℤ value_at form x y) f.len) p
after_macro (LoadConst f c) x y p = with_field f c p
after_macro (SetBit at v) x y p = put_bit at v p
after_macro (Toggle at) x y p = put_bit at (not (bit_at p.memory at)) p
after_macro (Copy f g) x y p = with_field g (number_in f p.memory) p
after_macro (KeepLess f g) x y p = keep (nat_lt (number_in f p.memory) (number_in g p.memory)) p

-- what operations leave of it, one after another
abbrev pub after_macros : List Macro → (x y : ℕ) → PixelBits → PixelBits
after_macros [] x y p = p
after_macros (m ∷ ms) x y p = after_macros ms x y (after_macro m x y p)

-- a field of 1 to 40 bits in a memory of so many
pub record IsField (field : Field) (bits : ℕ) : Type 0 where
  pub from_one : 1 ≤ field.len
  pub to_forty : field.len ≤ 40
  pub within : field.at + field.len ≤ bits

pub record AreOfOneLength (first second : Field) (bits : ℕ) : Type 0 where
  pub fields : IsField first bits × IsField second bits
  pub length : first.len ≡ second.len

-- one field ends before the other begins
abbrev pub AreApart : Field → Field → Type 0
AreApart f g = (f.at + f.len ≤ g.at) ⊎ (g.at + g.len ≤ f.at)

-- pixels of so many memory bits can carry the operation out
abbrev pub IsLawful : Macro → (bits : ℕ) → Type 0
IsLawful All bits = ⊤
IsLawful (KeepSign form) bits = IsInTreeRange form
IsLawful (KeepBit at v) bits = at < bits
IsLawful (LoadLinear form f) bits = IsInTreeRange form × IsField f bits
IsLawful (KeepAtMost form f) bits = IsInTreeRange form × IsField f bits
IsLawful (AddLinear form f) bits = IsInTreeRange form × IsField f bits
IsLawful (LoadConst f c) bits = IsField f bits × (c < 2 ^ f.len)
IsLawful (SetBit at v) bits = at < bits
IsLawful (Toggle at) bits = at < bits
IsLawful (Copy f g) bits = AreOfOneLength f g bits × AreApart f g
IsLawful (KeepLess f g) bits = AreOfOneLength f g bits

-- what few memory bits can carry out, more can
abbrev pub IsLawfulInMore : Type 0
IsLawfulInMore = (m : Macro) (bits more : ℕ) → bits ≤ more → IsLawful m bits → IsLawful m more

-- an operation keeps the number of memory bits
abbrev pub MemoryStaysLong : Type 0
MemoryStaysLong = (m : Macro) (x y : ℕ) (p : PixelBits) → length (after_macro m x y p).memory ≡ length p.memory

-- a list of operations may be cut in two
abbrev pub MeaningsJoin : Type 0
MeaningsJoin = (ms ns : List Macro) (x y : ℕ) (p : PixelBits) →
    after_macros (ms ++ ns) x y p ≡ after_macros ns x y (after_macros ms x y p)
