-- The text of the sample: blocks in rows of 16, and one cut through all of them. Clauses of public calls stand on it.
use Rattle.std.specs.Prelude.{ℕ, zero, suc, ◌+◌, ◌-◌, ◌*◌, ◌/◌, ◌%◌, ◌==◌, if◌then◌else◌, List, [], ◌∷◌, ◌++◌}
use Rattle.std.specs.Prelude.{ℤ, pos, neg_ℤ, codes, decimal}
use Rattle.std.specs.List.{flat_map, range_with_len}
use Rattle.px_num.specs.declared.linear.Linear.{Linear}
use Rattle.px_scene.specs.Canonical.{colour_words, words_of_plane, side_line, written_line}

abbrev pub form : (a b c : ℤ) → Linear
form a b c = record { a = a; b = b; c = c }

-- a front or a back in the colour of its solid
abbrev pub form_line : (keyword : List ℕ) → Linear → List ℕ
form_line keyword p = written_line keyword (words_of_plane p)

abbrev pub block_name : ℕ → List ℕ
block_name i = codes "b" ++ decimal i

abbrev pub block_line : ℕ → List ℕ
block_line i = written_line (codes "solid") (block_name i ∷ colour_words (record { red = i; green = 100; blue = 200 }))

-- a block has three columns and three rows; 16 blocks are in a row, four pixels apart
abbrev pub left_and_right : ℕ → List ℕ
left_and_right i =
    side_line (form (pos 1) (pos 0) (neg_ℤ (pos (4 * (i % 16)))))
    ++ side_line (form (neg_ℤ (pos 1)) (pos 0) (pos (4 * (i % 16) + 2)))

abbrev pub top_and_bottom : ℕ → List ℕ
top_and_bottom i =
    side_line (form (pos 0) (pos 1) (neg_ℤ (pos (4 * (i / 16)))))
    ++ side_line (form (pos 0) (neg_ℤ (pos 1)) (pos (4 * (i / 16) + 2)))

abbrev pub block_sides : ℕ → List ℕ
block_sides i = left_and_right i ++ top_and_bottom i

abbrev pub block_faces : ℕ → List ℕ
block_faces i =
    form_line (codes "front") (form (pos 1) (pos 2) (pos (100 + i)))
    ++ form_line (codes "back") (form (pos 0) (pos 0) (pos 1000))

abbrev pub block_lines : ℕ → List ℕ
block_lines i = block_line i ++ block_sides i ++ block_faces i

-- the rows that n blocks fill, four pixels each
abbrev pub block_rows : ℕ → ℕ
block_rows n = (n + 15) / 16

abbrev pub sample_start : ℕ → List ℕ
sample_start n =
    written_line (codes "pxscene") (codes "1" ∷ [])
    ++ written_line (codes "picture") (decimal 64 ∷ decimal (4 * block_rows n) ∷ [])
    ++ written_line (codes "depth") (decimal 16 ∷ [])

abbrev pub cut_lines : List ℕ
cut_lines =
    written_line (codes "solid") (codes "cut" ∷ colour_words (record { red = 255; green = 255; blue = 0 }))
    ++ side_line (form (pos 1) (neg_ℤ (pos 1)) (pos 0))
    ++ form_line (codes "back") (form (pos 0) (pos 0) (pos 300))

-- the union of the blocks from `first` to before `end`: one alone by its name, more in two halves, of which the second
-- may be the greater; `depth` is at least how often they are halved (`laws_of_samples` says it without)
unfoldable pub union_in : (depth first end : ℕ) → List ℕ
union_in zero first end = []
union_in (suc depth) first end =
    if end == first + 1
    then block_name first
    else (codes "(" ++ union_in depth first ((first + end) / 2) ++ codes " + " ++ union_in depth ((first + end) / 2)
    end ++ codes ")")

abbrev pub union_of : (first end : ℕ) → List ℕ
union_of first end = union_in (end - first) first end

abbrev pub sample_text : ℕ → List ℕ
sample_text n =
    sample_start n
    ++ flat_map block_lines (range_with_len 0 n)
    ++ cut_lines
    ++ written_line (codes "show") ((codes "(" ++ union_of 0 n ++ codes " - cut)") ∷ [])
    ++ written_line (codes "end") []
