-- Words that are written with spaces between them, and lines with their feeds, are read back.
use Rattle.px_num.proofs.Basics.{nat_tests, common_steps, ◌≡◌, ℕ, ◌==◌, List, [], ◌∷◌, ◌++◌, length, filter, Some, true}
use Rattle.px_num.proofs.Basics.{false, refl, ap, ◌∙◌, arith, append_assoc, append-nil, length-append, slice_get, zero}
use Rattle.px_num.proofs.Basics.{suc, All, flat_map, slice_split, list_all, list_all-append, take-append_seam}
use Rattle.std.proofs.lemmas.List.Splits.{slice_split_none, slice_split_at}
use Rattle.px_text.specs.Text.{Words, is_blank, is_some_byte, words_of, lines_of}
use Rattle.px_text.specs.Written.{spaced, is_plain_byte, is_plain, are_plain, is_no_feed, fed}
use Rattle.px_num.proofs.TruthLaws.{not_true}
use Rattle.px_text.proofs.PlainLaws.{both, is_no_comment, before_none, plain_byte}

no_blanks : (w : List ℕ) → list_all is_plain_byte w ≡ true → All (λ b. is_blank b ≡ false) w
no_blanks [] all k d lt = absurd (omega arith)
no_blanks (b ∷ w) all zero d lt = (plain_byte b (both (is_plain_byte b) (list_all is_plain_byte w) all).0).no_blank
no_blanks (b ∷ w) all (suc k) d lt =
    no_blanks w (both (is_plain_byte b) (list_all is_plain_byte w) all).1 k d (omega arith)

split_words : (w : List ℕ) (ws : Words) → list_all is_plain_byte w ≡ true → are_plain ws ≡ true
    → slice_split is_blank (w ++ spaced ws) ≡ w ∷ ws
split_words w [] all plain = ap (slice_split is_blank) (append-nil w) ∙ slice_split_none is_blank w (no_blanks w all)
split_words w (v ∷ ws) all plain =
    let each = both (is_plain v) (are_plain ws) plain
    in let first = both (is_some_byte v) (list_all is_plain_byte v) each.0
    in grind (arith, slice_split_at, no_blanks, split_words v ws first.1 each.1)

no_comments : (w : List ℕ) → list_all is_plain_byte w ≡ true → list_all is_no_comment w ≡ true
no_comments [] all = refl
no_comments (b ∷ w) all =
    grind (arith, both, plain_byte, no_comments w (both (is_plain_byte b) (list_all is_plain_byte w) all).1)

spaced_uncommented : (ws : Words) → are_plain ws ≡ true → list_all is_no_comment (spaced ws) ≡ true
spaced_uncommented [] plain = refl
spaced_uncommented (v ∷ ws) plain =
    let each = both (is_plain v) (are_plain ws) plain
    in let first = both (is_some_byte v) (list_all is_plain_byte v) each.0
    in list_all-append is_no_comment v (spaced ws) ∙ rw (no_comments v first.1, spaced_uncommented ws each.1) refl

some_words : (ws : Words) → are_plain ws ≡ true → filter is_some_byte ws ≡ ws
some_words [] plain = refl
some_words (w ∷ ws) plain = grind (arith, both, some_words ws (both (is_plain w) (are_plain ws) plain).1)

pub words_read : (w : List ℕ) (ws : Words) → is_plain w ≡ true → are_plain ws ≡ true
    → words_of (w ++ spaced ws) ≡ w ∷ ws
words_read w ws here plain =
    let first = both (is_some_byte w) (list_all is_plain_byte w) here
    in let uncommented : list_all is_no_comment (w ++ spaced ws) ≡ true =
    list_all-append is_no_comment w (spaced ws) ∙ rw (no_comments w first.1, spaced_uncommented ws plain) refl
    in ap (λ bs. filter is_some_byte (slice_split is_blank bs)) (before_none (w ++ spaced ws) uncommented)
    ∙ ap (filter is_some_byte) (split_words w ws first.1 plain)
    ∙ some_words (w ∷ ws) (rw (here, plain) refl)

-- lines with a feed between them
abbrev between : List (List ℕ) → List ℕ
between ls = flat_map (λ l. 10 ∷ l) ls

fed_between : (l : List ℕ) (ls : List (List ℕ)) → fed (l ∷ ls) ≡ (l ++ between ls) ++ 10 ∷ []
fed_between l [] = simp (append_assoc, append-nil)
fed_between l (m ∷ ls) = ap (λ t. (l ++ 10 ∷ []) ++ t) (fed_between m ls) ∙ simp append_assoc

no_feeds : (l : List ℕ) → list_all is_no_feed l ≡ true → All (λ b. (b == 10) ≡ false) l
no_feeds [] all k d lt = absurd (omega arith)
no_feeds (b ∷ l) all zero d lt = not_true (b == 10) (both (is_no_feed b) (list_all is_no_feed l) all).0
no_feeds (b ∷ l) all (suc k) d lt = no_feeds l (both (is_no_feed b) (list_all is_no_feed l) all).1 k d (omega arith)

split_lines : (l : List ℕ) (ls : List (List ℕ)) → list_all is_no_feed l ≡ true
    → list_all (λ m. list_all is_no_feed m) ls ≡ true → slice_split (λ b. b == 10) (l ++ between ls) ≡ l ∷ ls
split_lines l [] all each = grind (arith, append-nil, slice_split_none, no_feeds)
split_lines l (m ∷ ls) all each =
    let next = both (list_all is_no_feed m) (list_all (λ n. list_all is_no_feed n) ls) each
    in grind (arith, slice_split_at, no_feeds, split_lines m ls next.0 next.1)

last_feed : (t : List ℕ) → slice_get (t ++ 10 ∷ []) (length t) ≡ Some 10
last_feed [] = refl
last_feed (b ∷ t) = last_feed t

some_fed : (t : List ℕ) → is_some_byte (t ++ 10 ∷ []) ≡ true
some_fed [] = refl
some_fed (b ∷ t) = refl

lines_fed : (t : List ℕ) → lines_of (t ++ 10 ∷ []) ≡ slice_split (λ b. b == 10) t
lines_fed t = grind (arith, nat_tests, common_steps, length-append, some_fed, last_feed, take-append_seam)

pub lines_read : (lines : List (List ℕ)) → list_all (λ l. list_all is_no_feed l) lines ≡ true
    → lines_of (fed lines) ≡ lines
lines_read [] each = refl
lines_read (l ∷ ls) each = grind (arith, both, fed_between, lines_fed, split_lines)
