-- What a contract sees of rows of words: their bits. Clauses of public calls stand on it.
use Rattle.std.specs.Prelude.{◌≡◌, ℕ, ◌+◌, ◌*◌, ◌/◌, ◌%◌, ◌<◌, Bool, List, length, get_or}
use Rattle.px_num.specs.Bits.{nat_bit}

-- bit p of a row: bit p mod 64 of word p div 64
abbrev pub row_bit : List ℕ → ℕ → Bool
row_bit words p = nat_bit (get_or words (p / 64) 0) (p % 64)

-- each bit of a row is what f says of its place
abbrev pub EachBit : List ℕ → (ℕ → Bool) → Type 0
EachBit words f = (p : ℕ) → p < 64 * length words → row_bit words p ≡ f p

-- how many words hold so many bits
abbrev pub words_for : ℕ → ℕ
words_for n = (n + 63) / 64

-- every bit of a word is v
pub record HasAll (word : ℕ) (v : Bool) : Type 0 where
  pub each : (i : ℕ) → i < 64 → nat_bit word i ≡ v
