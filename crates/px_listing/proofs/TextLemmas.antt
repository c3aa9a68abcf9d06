-- The lines and the words of the canonical text of a listing, and what is read of them.
use Rattle.px_num.proofs.Basics.{suc, ◌≡◌, ℕ, pos, ◌≤◌, All, List, [], ◌∷◌, ◌++◌, true, None, Ok, map, codes, refl, ap}
use Rattle.px_num.proofs.Basics.{sym, ◌∙◌, arith, append_assoc, ints, list_all-append, signed_decimal, flat_map}
use Rattle.px_num.proofs.Basics.{list_all}
use Rattle.px_listing.proofs.Words.{are_plain, both, canonical_listing, end_line, fed, first_bad, grid, grid_form}
use Rattle.px_listing.proofs.Words.{grid_past, is_no_feed, is_plain, IsGrid, IsLawful, kind_of, ListingView, Macro}
use Rattle.px_listing.proofs.Words.{macro_line, opening, operands_of, plain_fed, signed_plain, signed_read, spaced}
use Rattle.px_listing.proofs.Words.{spaced_fed, word_of, worded, Words, words_of}
use Rattle.std.proofs.lemmas.List.{append-nil}
use Rattle.px_text.proofs.SpacedLaws.{lines_read, words_read}
use Rattle.px_listing.specs.Lines.{number_line}
use Rattle.px_listing.specs.Listings.{header_line}
use Rattle.px_listing.specs.Reading.{ListingDraft, extended, extended_by, is_listing_over, listing_draft_of}
use Rattle.px_listing.specs.Reading.{listing_fault_behind, unwritten}
use Rattle.px_listing.specs.RoundTrip.{TextsAreReadBack}
use Rattle.px_listing.proofs.AcceptedLemmas.{draft_more}
use Rattle.px_listing.proofs.RoundLemmas.{op_read, op_words, past_none, small_place}
use Rattle.px_listing.specs.declared.keyword.Due.TheVariants as d
use Rattle.px_listing.specs.declared.limit.ListKind.TheVariants as kind

-- a line by its words, without the line feed
abbrev bare : Words → List ℕ
bare [] = []
bare (w ∷ ws) = w ++ spaced ws

-- the lines from the operations on, by their words
abbrev words_from : List Macro → List Words
words_from [] = (codes "end" ∷ []) ∷ []
words_from (op ∷ ops) = op_words op ∷ words_from ops

abbrev header_words : Words
header_words = codes "pxlist" ∷ codes "1" ∷ []

abbrev grid_words : (nx ny : ℕ) → Words
grid_words nx ny = codes "grid" ∷ map signed_decimal (pos nx ∷ pos ny ∷ [])

abbrev all_words : ListingView → List Words
all_words l = header_words ∷ grid_words l.nx l.ny ∷ words_from l.macros

bare_fed : (w : List ℕ) (ws : Words) → is_plain w ≡ true → are_plain ws ≡ true
    → list_all is_no_feed (w ++ spaced ws) ≡ true
bare_fed w ws plain others = grind (arith, list_all-append, plain_fed, both, spaced_fed)

-- the lines are the text
lines_from : (ops : List Macro) → fed (map bare (words_from ops)) ≡ flat_map macro_line ops ++ end_line
unfolding number_line
lines_from [] = append-nil end_line
lines_from (op ∷ ops) =
    ap (λ t. macro_line op ++ t) (lines_from ops)
    ∙ sym (append_assoc (macro_line op) (flat_map macro_line ops) end_line)

text_is : (l : ListingView) → fed (map bare (all_words l)) ≡ canonical_listing l
unfolding header_line number_line
text_is l = grind (arith, grid, number_line, codes, pos, flat_map, macro_line, lines_from, append_assoc, end_line)

-- the operations can be carried out by pixels of so many memory bits
abbrev AreLawful : (bits : ℕ) → List Macro → Type 0
AreLawful bits ops = All (λ op. IsLawful op bits) ops

first_of : (bits : ℕ) (op : Macro) (ops : List Macro) → AreLawful bits (op ∷ ops) → IsLawful op bits
first_of bits op ops lawful = lawful 0 op (omega arith)

rest_of : (bits : ℕ) (op : Macro) (ops : List Macro) → AreLawful bits (op ∷ ops) → AreLawful bits ops
rest_of bits op ops lawful k d low = lawful (suc k) d (omega arith)

-- what is read of the lines of operations
pub record AreRead (bits : ℕ) (before : List Words) (nx ny : ℕ) (done ops : List Macro) : Type 0 where
  pub fed : list_all (λ l. list_all is_no_feed l) (map bare (words_from ops)) ≡ true
  pub words : map words_of (map bare (words_from ops)) ≡ words_from ops
  pub good : first_bad (listing_fault_behind bits) before (words_from ops) ≡ None
  pub says : listing_draft_of (before ++ words_from ops)
      ≡ record { due = d.Nothing; nx = nx; ny = ny; macros = done ++ ops }

abbrev open_listing : (nx ny : ℕ) → List Macro → ListingDraft
open_listing nx ny ops = record { due = d.Operation; nx = nx; ny = ny; macros = ops }

ops_read : (bits : ℕ) → bits ≤ 256 → (nx ny : ℕ) (done ops : List Macro) (before : List Words)
    → listing_draft_of before ≡ open_listing nx ny done → AreLawful bits ops → AreRead bits before nx ny done ops
ops_read bits most nx ny done [] before is lawful = grind (arith, codes, words_read, draft_more, append-nil)
ops_read bits most nx ny done (op ∷ ops) before is lawful =
    let read = op_read bits most op (first_of bits op ops lawful) in
    let word = word_of (kind_of op) in
    let numbers = map signed_decimal (operands_of op) in
    let words = op_words op in
    let next : listing_draft_of (before ++ words ∷ []) ≡ open_listing nx ny (done ++ op ∷ []) =
    grind (arith, draft_more) in
    let more = ops_read bits most nx ny (done ++ op ∷ []) ops (before ++ words ∷ []) next
    (rest_of bits op ops lawful) in
    let later = first_bad (listing_fault_behind bits) (before ++ words ∷ []) (words_from ops) in
    grind (arith, bare_fed, words_read, append_assoc)

-- the line of the grid
pub record IsGridRead (bits nx ny : ℕ) : Type 0 where
  pub reads : grid_form (map signed_decimal (pos nx ∷ pos ny ∷ [])) ≡ Ok (grid (pos nx) (pos ny))
  pub good : grid_past (pos nx) (pos ny) ≡ None
  pub plain : are_plain (map signed_decimal (pos nx ∷ pos ny ∷ [])) ≡ true

grid_read : (bits nx ny : ℕ) → IsGrid nx ny → IsGridRead bits nx ny
grid_read bits nx ny within =
    let x = small_place nx (omega (arith, within)) in
    let y = small_place ny (omega (arith, within)) in
    record {
      reads = rw (signed_read (pos nx) x, signed_read (pos ny) y) refl;
      good = rw (
        past_none kind.Grid (pos 1) (pos 9) (pos nx) (omega (arith, ints, within)) (omega (arith, ints, within)),
        past_none kind.Grid (pos 1) (pos 9) (pos ny) (omega (arith, ints, within)) (omega (arith, ints, within)),
      ) refl;
      plain = rw (signed_plain (pos nx) x, signed_plain (pos ny) y) refl;
    }

pub read_back : TextsAreReadBack
read_back bits l most within lawful =
    let of_grid = grid_read bits l.nx l.ny within in
    let second = map signed_decimal (pos l.nx ∷ pos l.ny ∷ []) in
    let before = header_words ∷ grid_words l.nx l.ny ∷ [] in
    let start : listing_draft_of before ≡ open_listing l.nx l.ny [] =
    ap (extended_by (extended unwritten opening)) of_grid.reads in
    let ops = ops_read bits most l.nx l.ny [] l.macros before start lawful in
    let fed_all : list_all (λ l. list_all is_no_feed l) (map bare (all_words l)) ≡ true =
    rw (bare_fed (codes "grid") second refl of_grid.plain, ops.fed) refl in
    let text : worded (canonical_listing l) ≡ all_words l =
    ap worded (sym (text_is l)) ∙ ap (map words_of) (lines_read (map bare (all_words l)) fed_all)
    ∙ rw (
      words_read (codes "pxlist") (codes "1" ∷ []) refl refl,
      words_read (codes "grid") second refl of_grid.plain,
      ops.words,
    ) refl in
    let good : first_bad (listing_fault_behind bits) [] (all_words l) ≡ None = grind arith in
    let ended : is_listing_over (listing_draft_of (all_words l)).due ≡ true =
    ap (λ (v : ListingDraft). is_listing_over v.due) ops.says in
    grind arith
