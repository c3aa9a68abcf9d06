-- Numbers in lanes. Clauses of public calls stand on it.
use Rattle.std.specs.Prelude.{◌≡◌, ℕ, ◌+◌, ◌*◌, ◌/◌, ◌%◌, ◌^◌, ◌<◌, false, ℤ, pos, ◌+ℤ◌, ◌*ℤ◌, List, [], length}
use Rattle.std.specs.Prelude.{slice_index, slice_index_or}
use Rattle.px_num.specs.Bits.{bit_of, carry_from, nat_bit}
use Rattle.px_rows.specs.declared.carries.Carries.{Carries}
use Rattle.px_num.specs.Forms.{value_at}
use Rattle.px_num.specs.declared.linear.Linear.{Linear}

-- lane j has the lowest bits of u
pub record HasValue (words : List ℕ) (j : ℕ) (u : ℤ) : Type 0 where
  pub each : (t : ℕ) → t < length words → nat_bit (slice_index words t) j ≡ bit_of u t

-- how much greater the value of a form is j pixels further on than at the first pixel of a word, where columns
-- have 2^ny pixels
abbrev pub offset : Linear → (ny j : ℕ) → ℤ
offset form ny j = (form.a *ℤ pos (j / 2 ^ ny)) +ℤ (form.b *ℤ pos (j % 2 ^ ny))

-- what is carried in a lane into bit t, where u and v are added, and n to their sum
pub record HasCarries (carries : Carries) (j : ℕ) (u v n : ℤ) (t : ℕ) : Type 0 where
  pub first : nat_bit carries.first j ≡ carry_from false u v t
  pub second : nat_bit carries.second j ≡ carry_from false (u +ℤ v) n t

-- bit t of the values at the pixels of a block of eight words is in the eight words t
pub record AreBlockValues (form : Linear) (ny block bits : ℕ) (words : List (List ℕ)) : Type 0 where
  pub each : (t p : ℕ) → t < bits → p < 512 → nat_bit (slice_index (slice_index_or words t []) (p / 64)) (p % 64)
      ≡ bit_of (value_at form ((512 * block + p) / 2 ^ ny) ((512 * block + p) % 2 ^ ny)) t
