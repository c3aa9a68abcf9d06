-- What is read of the canonical text of a listing.
use Rattle.px_num.proofs.Basics.{◌≡◌, ℕ, ℤ, pos, ◌+◌, ◌^◌, ◌<◌, ◌≤◌, ◌≤ℤ◌, List, [], ◌∷◌, Bool, true, false, Some}
use Rattle.px_num.proofs.Basics.{None, Ok, Err, map, length, if◌then◌else◌, not, ◌∙◌, inl, inr, ◌⊎◌, refl, arith}
use Rattle.px_num.proofs.Basics.{pow_mono, ints, length-map, signed_decimal}
use Rattle.px_listing.proofs.Words.{are_numbers, are_plain, bit_number, end_past, field_past, form_past, is_plain}
use Rattle.px_listing.proofs.Words.{is_set, IsField, IsInTreeRange, IsLawful, IsWithin, Kind, kind_of}
use Rattle.px_listing.proofs.Words.{listing_keyword_of, Macro, number_count, numbers_of, operands_of, operation}
use Rattle.px_listing.proofs.Words.{operation_form, operation_with, overlap, past, same_true, shape_of, shape_past}
use Rattle.px_listing.proofs.Words.{signed_plain, signed_read, timely_form, word_of, Words}
use Rattle.std.specs.Bool.{⊤}
use Rattle.px_macro.specs.declared.field.Field.{Field}
use Rattle.px_num.specs.declared.linear.Linear.{Linear}
use Rattle.px_text.proofs.LineLaws.{small_size}
use Rattle.px_listing.specs.declared.kind.Shape.{Shape}
use Rattle.px_listing.specs.declared.limit.ListKind.{ListKind}
use lib.Signed.{mag}
use Rattle.px_macro.specs.declared.operation.Macro.TheVariants as m
use Rattle.px_show.specs.declared.fault.Cause.TheVariants as c
use Rattle.px_listing.specs.declared.keyword.Keyword.TheVariants as k
use Rattle.px_listing.specs.declared.kind.Kind.TheVariants as n
use Rattle.px_listing.specs.declared.kind.Shape.TheVariants as s
use Rattle.px_listing.specs.declared.keyword.Due.TheVariants as d
use Rattle.px_listing.specs.declared.limit.ListKind.TheVariants as kind

-- a number within its range
pub past_none : (k : ListKind) (low high z : ℤ) → low ≤ℤ z → z ≤ℤ high → past k low high z ≡ None
past_none k low high z above below = grind (arith, ints)

pub small_place : (n : ℕ) → n < 10 ^ 18 → mag (pos n) < 10 ^ 18
small_place n few = omega (arith, ints)

form_none : (a b c : ℤ) → IsWithin (2 ^ 27) a → IsWithin (2 ^ 27) b → IsWithin (2 ^ 38) c → form_past a b c ≡ None
form_none a b c in_a in_b in_c = grind (arith, past_none)

end_none : (bits at len : ℕ) → at + len ≤ bits → end_past bits (pos at) (pos len) ≡ None
end_none bits at len within = grind (arith, ints)

field_none : (bits at len : ℕ) → 1 ≤ len → len ≤ 40 → at + len ≤ bits → field_past bits (pos at) (pos len) ≡ None
field_none bits at len some few within = grind (arith, past_none, end_none)

bit_none : (v : Bool) → past kind.Value (pos 0) (pos 1) (bit_number v) ≡ None
bit_none true = refl
bit_none false = refl

bit_read : (v : Bool) → is_set (bit_number v) ≡ v
bit_read true = refl
bit_read false = refl

bit_small : (v : Bool) → mag (bit_number v) < 10 ^ 18
bit_small true = omega arith
bit_small false = omega arith

apart_none : (at len to : ℕ) → (at + len ≤ to) ⊎ (to + len ≤ at) → overlap (pos at) (pos len) (pos to) ≡ None
apart_none at len to (inl before) = grind (arith, ints)
apart_none at len to (inr behind) = grind (arith, ints)

-- the words of an operation's line
abbrev pub op_words : Macro → Words
op_words op = word_of (kind_of op) ∷ map signed_decimal (operands_of op)

-- numbers of fewer than 19 digits
abbrev AreShort : List ℤ → Type 0
AreShort [] = ⊤
AreShort (z ∷ zs) = (mag z < 10 ^ 18) × AreShort zs

are_read : (zs : List ℤ) → AreShort zs → numbers_of (map signed_decimal zs) ≡ zs
are_read [] short = refl
are_read (z ∷ zs) short = rw (signed_read z short.0, are_read zs short.1) refl

are_numeric : (zs : List ℤ) → AreShort zs → are_numbers (map signed_decimal zs) ≡ true
are_numeric [] short = refl
are_numeric (z ∷ zs) short = rw (signed_read z short.0, are_numeric zs short.1) refl

plain_numbers : (zs : List ℤ) → AreShort zs → are_plain (map signed_decimal zs) ≡ true
plain_numbers [] short = refl
plain_numbers (z ∷ zs) short = rw (signed_plain z short.0, plain_numbers zs short.1) refl

-- numbers that write a shape, within its limits
record Fits (bits : ℕ) (shape : Shape) (zs : List ℤ) : Type 0 where
  count : length zs ≡ number_count shape
  short : AreShort zs
  good : shape_past bits shape zs ≡ None

module _ (bits : ℕ) (most : bits ≤ 256) where
  form_fits : (form : Linear) → IsInTreeRange form → Fits bits s.Form (form.a ∷ form.b ∷ form.c ∷ [])
  form_fits form range = grind (arith, small_size, form_none)

  place_fits : (at : ℕ) → at < bits → Fits bits s.Place (pos at ∷ [])
  place_fits at within = grind (arith, small_place, end_none)

  bit_fits : (at : ℕ) (v : Bool) → at < bits → Fits bits s.Bit (pos at ∷ bit_number v ∷ [])
  bit_fits at v within = grind (arith, small_place, bit_small, end_none, bit_none)

  linear_fits : (form : Linear) (f : Field) → IsInTreeRange form → IsField f bits
      → Fits bits s.FormAndField (form.a ∷ form.b ∷ form.c ∷ pos f.at ∷ pos f.len ∷ [])
  linear_fits form f range is = grind (arith, small_size, small_place, form_none, field_none)

  constant_fits : (f : Field) (number : ℕ) → IsField f bits → number < 2 ^ f.len
      → Fits bits s.Constant (pos f.at ∷ pos f.len ∷ pos number ∷ [])
  constant_fits f number is below = grind (arith, pow_mono, small_place, field_none, past_none)

  fields_fit : (f g : Field) → IsField f bits → IsField g bits → f.len ≡ g.len
      → Fits bits s.Fields (pos f.at ∷ pos f.len ∷ pos g.at ∷ [])
  fields_fit f g first second same = grind (arith, small_place, field_none, end_none)

  apart_fit : (f g : Field) → IsField f bits → IsField g bits → f.len ≡ g.len
      → (f.at + f.len ≤ g.at) ⊎ (g.at + f.len ≤ f.at) → Fits bits s.FieldsApart (pos f.at ∷ pos f.len ∷ pos g.at ∷ [])
  apart_fit f g first second same apart = grind (arith, fields_fit, field_none, end_none, apart_none)

  fits : (op : Macro) → IsLawful op bits → Fits bits (shape_of (kind_of op)) (operands_of op)
  fits (m.KeepSign form) lawful = form_fits form lawful
  fits (m.KeepBit at v) lawful = bit_fits at v lawful
  fits (m.SetBit at v) lawful = bit_fits at v lawful
  fits (m.Toggle at) lawful = place_fits at lawful
  fits (m.LoadLinear form f) lawful = linear_fits form f lawful.0 lawful.1
  fits (m.KeepAtMost form f) lawful = linear_fits form f lawful.0 lawful.1
  fits (m.AddLinear form f) lawful = linear_fits form f lawful.0 lawful.1
  fits (m.LoadConst f number) lawful = constant_fits f number lawful.0 lawful.1
  fits (m.Copy f g) lawful = grind (arith, apart_fit)
  fits (m.KeepLess f g) lawful = fields_fit f g lawful.fields.0 lawful.fields.1 lawful.length
  fits op lawful = record { count = refl; short = tt; good = refl }

  -- the numbers of an operation write it
  written : (op : Macro) → IsLawful op bits → operation_with (kind_of op) (operands_of op) ≡ Some op
  written op h = grind arith

-- the word of an operation is its own, and plain
word_is : (kind : Kind) → listing_keyword_of (word_of kind) ≡ k.Operation kind
word_is n.All = refl
word_is kind = refl

plain_word : (kind : Kind) → is_plain (word_of kind) ≡ true
plain_word n.All = refl
plain_word kind = refl

-- so many numbers, that an operation of a kind needs
counted_by : (counts are : Bool) (kind : Kind) (ws : Words) → counts ≡ true → are ≡ true
    → operation_form kind (if not counts then Err c.WordCount else if are then Ok (numbers_of ws) else Err c.NotNumber)
    ≡ Ok (operation kind (numbers_of ws))
counted_by counts are kind ws one two = grind arith

-- a line of an operation that such pixels can carry out is good, and is read as it
pub record IsRead (bits : ℕ) (op : Macro) : Type 0 where
  pub reads : timely_form d.Operation (listing_keyword_of (word_of (kind_of op))) (map signed_decimal (operands_of op))
      ≡ Ok (operation (kind_of op) (operands_of op))
  pub good : shape_past bits (shape_of (kind_of op)) (operands_of op) ≡ None
  pub writes : operation_with (kind_of op) (operands_of op) ≡ Some op
  pub word : is_plain (word_of (kind_of op)) ≡ true
  pub plain : are_plain (map signed_decimal (operands_of op)) ≡ true

pub op_read : (bits : ℕ) → bits ≤ 256 → (op : Macro) → IsLawful op bits → IsRead bits op
op_read bits most op lawful =
    let kind = kind_of op in
    let zs = operands_of op in
    let ws = map signed_decimal zs in
    let fit = fits bits most op lawful in
    let count = same_true (length ws) (number_count (shape_of kind)) (length-map zs signed_decimal ∙ fit.count) in
    grind (arith, word_is, counted_by, are_numeric, are_read, written, plain_word, plain_numbers)
