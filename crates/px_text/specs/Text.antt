-- Lines and words of a text, and the numbers and names among its words. Clauses of public calls stand on it.
use Rattle.std.specs.Prelude.{ℕ, List, [], ◌∷◌, ◌==◌, ◌||◌, Bool, true, false, filter, map, length, ◌-◌, take}
use Rattle.std.specs.Prelude.{slice_get, if◌then◌else◌, ℤ, pos, ◌^◌, min, ◌&&◌, Option, Some, None, nat_le}
use Rattle.std.specs.Option.{option_map_or}
use Rattle.std.specs.List.{slice_split, before_first, list_all}
use Rattle.std.specs.Int.Digits.{number_from_digits}
use lib.IntN.{neg_ℤ}

-- the words of one line
abbrev pub Words : Type 0
Words = List (List ℕ)

-- a space, a tab or a carriage return
abbrev pub is_blank : ℕ → Bool
is_blank b = b == 32 || b == 9 || b == 13

-- whether there is a byte
abbrev pub is_some_byte : List ℕ → Bool
is_some_byte [] = false
is_some_byte (b ∷ bs) = true

-- whether a text ends in a line feed
abbrev pub ends_with_feed : List ℕ → Bool
ends_with_feed text = option_map_or (λ b. b == 10) (slice_get text (length text - 1)) false

-- the text without a line feed at its end
abbrev pub without_last_feed : List ℕ → List ℕ
without_last_feed text = if ends_with_feed text then take (length text - 1) text else text

-- the pieces between line feeds, where the empty one after a last line feed is no line
abbrev pub lines_of : List ℕ → List (List ℕ)
lines_of text = if is_some_byte text then slice_split (λ b. b == 10) (without_last_feed text) else []

-- the longest runs of bytes other than blanks
abbrev pub words_in : List ℕ → Words
words_in bytes = filter is_some_byte (slice_split is_blank bytes)

-- the words of a line before its comment
abbrev pub words_of : List ℕ → Words
words_of line = words_in (before_first (λ b. b == 35) line)

-- the words of each line of a text
abbrev pub worded : List ℕ → List Words
worded text = map words_of (lines_of text)

-- a digit, `0` to `9`
abbrev pub is_digit : ℕ → Bool
is_digit b = nat_le 48 b && nat_le b 57

-- the value of decimal digits; a size past 10 ^ 18 stands for 10 ^ 18
abbrev pub size_of_digits : List ℕ → Option ℕ
size_of_digits ds = if is_some_byte ds && list_all is_digit ds
    then Some (min (number_from_digits 10 (map (λ b. b - 48) ds)) (10 ^ 18)) else None

-- a size behind a `-`
abbrev pub negative : Option ℕ → Option ℤ
negative None = None
negative (Some n) = Some (neg_ℤ (pos n))

-- a size as a number from 0 on
abbrev pub positive : Option ℕ → Option ℤ
positive None = None
positive (Some n) = Some (pos n)

-- an optional `-` and one or more digits
abbrev pub number_of : List ℕ → Option ℤ
number_of [] = None
number_of (b ∷ bs) = if b == 45 then negative (size_of_digits bs) else positive (size_of_digits (b ∷ bs))

-- a letter, or `_`
abbrev pub is_letter : ℕ → Bool
is_letter b = (nat_le 97 b && nat_le b 122) || (nat_le 65 b && nat_le b 90) || b == 95

-- a byte of a name
abbrev pub is_name_byte : ℕ → Bool
is_name_byte b = is_letter b || is_digit b

-- 1 to 32 letters, digits and `_`, the first no digit
abbrev pub is_name : List ℕ → Bool
is_name [] = false
is_name (b ∷ bs) = is_letter b && list_all is_name_byte (b ∷ bs) && nat_le (length (b ∷ bs)) 32
