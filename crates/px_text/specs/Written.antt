-- Words as they are written, with spaces between them and a line feed after each line.
-- Clauses of public calls stand on it.
use Rattle.std.specs.Prelude.{ℕ, ◌==◌, List, [], ◌∷◌, ◌++◌, Bool, not, ◌||◌, ◌&&◌}
use Rattle.std.specs.List.{flat_map, list_all}
use Rattle.px_text.specs.Text.{Words, is_blank, is_some_byte}

-- each word with one space before it
abbrev pub spaced : Words → List ℕ
spaced ws = flat_map (λ w. 32 ∷ w) ws

-- a byte of a word: no blank, and none that begins a comment or ends a line
abbrev pub is_plain_byte : ℕ → Bool
is_plain_byte b = not (is_blank b || b == 35 || b == 10)

abbrev pub is_plain : List ℕ → Bool
is_plain w = is_some_byte w && list_all is_plain_byte w

abbrev pub are_plain : Words → Bool
are_plain ws = list_all is_plain ws

abbrev pub is_no_feed : ℕ → Bool
is_no_feed b = not (b == 10)

-- lines, each with its line feed
abbrev pub fed : List (List ℕ) → List ℕ
fed lines = flat_map (λ l. l ++ 10 ∷ []) lines
