-- The scene part of bytes. Clauses of public calls stand on it.
use Rattle.std.specs.Prelude.{ℕ, ◌+◌, ◌==◌, List, [], ◌∷◌, ◌++◌, Bool, false, if◌then◌else◌, Option, Some, None}
use Rattle.std.specs.Prelude.{bytes_eq, codes, drop, is_some, length, take, unwrap_or}
use Rattle.px_text.specs.Text.{Words, words_of}

abbrev pub are_end : Words → Bool
are_end [] = false
are_end (word ∷ []) = bytes_eq word (codes "end")
are_end (word ∷ other ∷ more) = false

-- a line whose one word is `end`
unfoldable pub is_end_line : List ℕ → Bool
is_end_line line = are_end (words_of line)

-- where the scene part ends: behind the first line feed of a line whose one word is `end`; so much of a line, and
-- so many bytes in all, stand before
abbrev pub end_after : (line : List ℕ) → (count : ℕ) → (bytes : List ℕ) → Option ℕ
end_after line count [] = None
end_after line count (b ∷ bs) =
    if b == 10 then (if is_end_line line then Some (count + 1) else end_after [] (count + 1) bs)
    else end_after (line ++ b ∷ []) (count + 1) bs

abbrev pub part_end : List ℕ → Option ℕ
part_end bytes = end_after [] 0 bytes

-- whether bytes that may not be all have a whole scene part
abbrev pub holds_part : List ℕ → Bool
holds_part bytes = is_some (part_end bytes)

-- the scene part, which is all where it does not end
abbrev pub scene_part : List ℕ → List ℕ
scene_part bytes = take (unwrap_or (part_end bytes) (length bytes)) bytes

-- the bytes after the scene part
abbrev pub behind_part : List ℕ → List ℕ
behind_part bytes = drop (unwrap_or (part_end bytes) (length bytes)) bytes
