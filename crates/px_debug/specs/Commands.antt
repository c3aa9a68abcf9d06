-- What a command line asks for. Clauses of public calls stand on it.
use Rattle.std.specs.Prelude.{ℕ, List, [], ◌∷◌, Option, Some, None, bytes_eq, codes, if◌then◌else◌, length}
use Rattle.std.specs.Prelude.{nat_le, nat_lt}
use Rattle.px_text.specs.Text.{size_of_digits, words_in}
use Rattle.px_debug.specs.declared.command.Command.{Command}
use Rattle.px_debug.specs.declared.command.Command.TheVariants as c

-- a line of one word
abbrev pub of_word : List ℕ → Command
of_word word =
    if bytes_eq word (codes "run") then c.Run
    else if bytes_eq word (codes "at") then c.At
    else if bytes_eq word (codes "trace") then c.Trace
    else if bytes_eq word (codes "quit") then c.Quit
    else c.Unknown

-- of a word and a number
abbrev pub of_word_and_number : List ℕ → ℕ → Command
of_word_and_number word n =
    if bytes_eq word (codes "step") then c.Step n
    else if bytes_eq word (codes "macro") then c.Macro n
    else if bytes_eq word (codes "until") then c.Until n
    else if bytes_eq word (codes "back") then c.Back n
    else c.Unknown

-- of a word and two numbers
abbrev pub of_word_and_numbers : List ℕ → (a b : ℕ) → Command
of_word_and_numbers word a b =
    if bytes_eq word (codes "pixel") then c.Pixel a b
    else if bytes_eq word (codes "field") then c.Field a b
    else if bytes_eq word (codes "tree") then c.Tree a b
    else c.Unknown

-- 1 to 18 digits, whose value is below 10 ^ 18
abbrev pub plain_number : List ℕ → Option ℕ
plain_number word = if nat_le (length word) 18 then size_of_digits word else None

abbrev pub with_operand : List ℕ → Option ℕ → Command
with_operand word None = c.Unknown
with_operand word (Some n) = of_word_and_number word n

abbrev pub with_numbers : List ℕ → (first second : Option ℕ) → Command
with_numbers word (Some a) (Some b) = of_word_and_numbers word a b
with_numbers word (Some a) None = c.Unknown
with_numbers word None second = c.Unknown

abbrev pub command_in : List (List ℕ) → Command
command_in [] = c.Nothing
command_in (word ∷ []) = of_word word
command_in (word ∷ first ∷ []) = with_operand word (plain_number first)
command_in (word ∷ first ∷ second ∷ []) = with_numbers word (plain_number first) (plain_number second)
command_in (word ∷ first ∷ second ∷ third ∷ more) = c.Unknown

-- a line of more than 255 bytes is none of the commands, whatever its words are
abbrev pub line_command : List ℕ → Command
line_command line = if nat_lt 255 (length line) then c.Unknown else command_in (words_in line)
