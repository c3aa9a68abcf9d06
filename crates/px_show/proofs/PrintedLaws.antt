-- A printed expression is read as it.
use Rattle.px_num.proofs.Basics.{◌≡◌, ◌≢◌, ℕ, ◌+◌, ◌<◌, ◌==◌, List, [], ◌∷◌, ◌++◌, length, get_or, filter, Some, None}
use Rattle.px_num.proofs.Basics.{Bool, true, false, not, nat_le, ◌&&◌, ◌||◌, if◌then◌else◌, refl, ap, sym, ◌∙◌, arith}
use Rattle.px_num.proofs.Basics.{append_assoc, append-nil, zero, suc, AllPass, AllPairs, flat_map, slice_split}
use Rattle.px_num.proofs.Basics.{before_first, list_all, bytes_eq, bytes_eq-Decides, nat_tests, list_all-append}
use Rattle.px_show.proofs.Words.{are_known, AreDistinctNames, before_none, both, closes, expression_of, has_names}
use Rattle.px_show.proofs.Words.{has_signs, HasLeavesBelow, is_among, is_blank, is_name, is_name_byte, is_no_comment}
use Rattle.px_show.proofs.Words.{is_some_byte, IsLawfulTree, name, name_bytes, Named, named_by, Op}
use Rattle.px_show.proofs.Words.{over_places, place_of, plain_byte, printed, show_fault, show_tree, sign, Token}
use Rattle.px_show.proofs.Words.{tokens_in, tokens_of, Tree, Version, whole, Words, words_of, written}
use Rattle.px_show.specs.Expressions.{leaf, join}
use Rattle.px_show.specs.Versions.{has_differ, sign_byte, is_sign, is_differ, has_difference}
use Rattle.px_show.proofs.SignLaws.{sign_marked, sign_no_name, sign_plain}
use Rattle.px_show.proofs.TokenLemmas.{apart}
use Rattle.px_show.proofs.ExpressionLemmas.{reads}
use Rattle.px_show.proofs.StackLemmas.{place_unknown}
use Rattle.px_show.proofs.ShowLaws.{same_leaves, same_nesting}
use Rattle.px_expr.specs.Tree as shown

-- no byte of a name begins a comment or is a blank
record IsPlain (b : ℕ) : Type 0 where
  no_blank : is_blank b ≡ false
  no_comment : (b == 35) ≡ false

plain_name : (b : ℕ) → is_name_byte b ≡ true → IsPlain b
plain_name b e = record { no_blank = grind (arith, nat_tests); no_comment = grind (arith, nat_tests) }

abbrev tokens_across : Version → List ℕ → List Token
tokens_across version bs = flat_map (tokens_in version) (slice_split is_blank bs)

-- what stands behind a name
abbrev Apart : List ℕ → Type 0
Apart [] = Unit {0}
Apart (b ∷ bs) = is_name_byte b ≡ false

tokens_apart : (version : Version) (b : ℕ) (bs piece : List ℕ) → list_all is_name_byte (b ∷ bs) ≡ true → Apart piece
    → tokens_in version (b ∷ (bs ++ piece)) ≡ name (b ∷ bs) ∷ tokens_in version piece
tokens_apart version b [] [] all behind = rw (both (is_name_byte b) true all).0 refl
tokens_apart version b [] (c ∷ cs) all behind =
    rw ((both (is_name_byte b) true all).0, behind) (apart version b c (tokens_in version cs))
tokens_apart version b (c ∷ cs) piece all behind =
    let each = both (is_name_byte b) (list_all is_name_byte (c ∷ cs)) all
    in rw (each.0, tokens_apart version c cs piece each.1 behind) refl

record IsSplit (bs : List ℕ) : Type 0 where
  first : List ℕ
  others : List (List ℕ)
  pieces : slice_split is_blank bs ≡ first ∷ others
  behind : Apart first

split_apart : (bs : List ℕ) → Apart bs → IsSplit bs
split_apart [] behind = record { first = []; others = []; pieces = refl; behind = tt }
split_apart (b ∷ bs) behind = by_test (is_blank b) (slice_split is_blank bs) refl refl
  where
    by_test : (test : Bool) (pieces : List (List ℕ)) → is_blank b ≡ test → slice_split is_blank bs ≡ pieces
        → IsSplit (b ∷ bs)
    by_test true pieces blank is = record { first = []; others = pieces; pieces = rw (blank, is) refl; behind = tt }
    by_test false [] blank is = record { first = b ∷ []; others = []; pieces = rw (blank, is) refl; behind = behind }
    by_test false (piece ∷ pieces) blank is =
        record { first = b ∷ piece; others = pieces; pieces = rw (blank, is) refl; behind = behind }

split_name : (n bs first : List ℕ) (others : List (List ℕ)) → list_all is_name_byte n ≡ true
    → slice_split is_blank bs ≡ first ∷ others → slice_split is_blank (n ++ bs) ≡ (n ++ first) ∷ others
split_name [] bs first others all is = is
split_name (b ∷ n) bs first others all is =
    grind (arith, both, split_name n bs first others (both (is_name_byte b) (list_all is_name_byte n) all).1 is)

across_name : (version : Version) (n bs : List ℕ) → is_name n ≡ true → Apart bs → tokens_across version (n ++ bs)
    ≡ name n ∷ tokens_across version bs
across_name version [] bs e behind = cc
across_name version (b ∷ n) bs e behind =
    let split = split_apart bs behind
    in let all = name_bytes (b ∷ n) e
    in ap (flat_map (tokens_in version)) (split_name (b ∷ n) bs split.first split.others all split.pieces)
    ∙ rw (tokens_apart version b n split.first all split.behind, split.pieces) refl

across_sign : (version : Version) (op : Op) (bs : List ℕ) → is_sign version op ≡ true
    → tokens_across version (sign_byte op ∷ bs) ≡ sign op ∷ tokens_across version bs
across_sign version op bs is = grind (arith, plain_byte, sign_plain, sign_no_name, sign_marked)

across_printed : (version : Version) (tree : Named) (bs : List ℕ) → has_names tree ≡ true
    → has_signs version tree ≡ true → Apart bs
    → tokens_across version (printed tree ++ bs) ≡ written tree ++ tokens_across version bs
across_printed version (leaf n) bs names signs behind = across_name version n bs names behind
across_printed version (join op left right) bs names signs behind =
    let each = both (has_names left) (has_names right) names
    in let allowed = both (is_sign version op && has_signs version left) (has_signs version right) signs
    in let before = both (is_sign version op) (has_signs version left) allowed.0
    in let behind_right : tokens_across version ((printed right ++ 41 ∷ []) ++ bs) ≡ (written right ++ closes ∷ [])
    ++ tokens_across version bs =
    grind (arith, append_assoc, across_printed version right (41 ∷ bs) each.1 allowed.1 refl)
    in let behind_left : tokens_across version (sign_byte op ∷ 32 ∷ ((printed right ++ 41 ∷ []) ++ bs))
    ≡ sign op ∷ ((written right ++ closes ∷ []) ++ tokens_across version bs) =
    across_sign version op (32 ∷ ((printed right ++ 41 ∷ []) ++ bs)) before.0 ∙ ap (λ ts. sign op ∷ ts) behind_right
    in
    grind (
      arith,
      append_assoc,
      across_printed version left (32 ∷ sign_byte op ∷ 32 ∷ ((printed right ++ 41 ∷ []) ++ bs)) each.0 before.1 refl,
    )

name_uncommented : (n : List ℕ) → list_all is_name_byte n ≡ true → list_all is_no_comment n ≡ true
name_uncommented [] all = refl
name_uncommented (b ∷ n) all =
    grind (arith, both, plain_name, name_uncommented n (both (is_name_byte b) (list_all is_name_byte n) all).1)

pub printed_uncommented : (tree : Named) → has_names tree ≡ true → list_all is_no_comment (printed tree) ≡ true
printed_uncommented (leaf n) names = name_uncommented n (name_bytes n names)
printed_uncommented (join op left right) names =
    let each = both (has_names left) (has_names right) names
    in
    grind (arith, list_all-append, is_no_comment, printed_uncommented left each.0, printed_uncommented right each.1)

-- empty pieces have no tokens
words_only : (version : Version) (pieces : List (List ℕ))
    → flat_map (tokens_in version) (filter is_some_byte pieces) ≡ flat_map (tokens_in version) pieces
words_only version [] = refl
words_only version ([] ∷ pieces) = words_only version pieces
words_only version ((b ∷ bs) ∷ pieces) = ap (λ ts. tokens_in version (b ∷ bs) ++ ts) (words_only version pieces)

pub printed_tokens : (version : Version) (tree : Named) → has_names tree ≡ true → has_signs version tree ≡ true
    → tokens_of version (words_of (printed tree)) ≡ written tree
printed_tokens version tree names signs =
    words_only version (slice_split is_blank (before_first (λ b. b == 35) (printed tree)))
    ∙ ap (tokens_across version) (before_none (printed tree) (printed_uncommented tree names))
    ∙ ap (tokens_across version) (sym (append-nil (printed tree)))
    ∙ across_printed version tree [] names signs tt
    ∙ append-nil (written tree)

-- a name's place gives it back, where no two are alike
place_back : (names : Words) (place : ℕ) → AllPairs (λ m n. m ≢ n) names → place < length names
    → place_of names (get_or names place []) ≡ place
place_back [] place different below = absurd (omega arith)
place_back (n ∷ ns) zero different below = rw ((bytes_eq-Decides n n).1 refl) refl
place_back (n ∷ ns) (suc place) different below =
    by_test (bytes_eq n (get_or ns place [])) refl
    (place_back ns place (λ i j d lt le. different (suc i) (suc j) d (omega arith) (omega arith)) (omega arith))
  where
    by_test : (test : Bool) → bytes_eq n (get_or ns place []) ≡ test → place_of ns (get_or ns place []) ≡ place
        → (if test then 0 else place_of ns (get_or ns place []) + 1) ≡ suc place
    by_test true same later =
        absurd (different 0 (suc place) [] (omega arith) (omega arith)
        ((bytes_eq-Decides n (get_or ns place [])).0 same))
    by_test false other later = omega arith

placed_back : (names : Words) (tree : Tree) → AllPairs (λ m n. m ≢ n) names → HasLeavesBelow (length names) tree
    → over_places names (named_by names tree) ≡ tree
placed_back names (shown.leaf place) different below = ap shown.leaf (place_back names place different below)
placed_back names (shown.join op left right) different below =
    cc (placed_back names left different below.0, placed_back names right different below.1)

pub names_lawful : (names : Words) (tree : Tree) → AllPass is_name names → HasLeavesBelow (length names) tree
    → has_names (named_by names tree) ≡ true
names_lawful names (shown.leaf place) lawful below = lawful place [] below
names_lawful names (shown.join op left right) lawful below =
    rw (names_lawful names left lawful below.0, names_lawful names right lawful below.1) refl

all_known : (names : Words) (tree : Named) → HasLeavesBelow (length names) (over_places names tree)
    → are_known names tree ≡ true
all_known names (leaf n) below = by_test (is_among names n) (place_unknown names n)
  where
    by_test : (test : Bool) → nat_le (length names) (place_of names n) ≡ not test → test ≡ true
    by_test true e = refl
    by_test false e = absurd (grind (arith, nat_tests))
all_known names (join op left right) below = rw (all_known names left below.0, all_known names right below.1) refl

printed_read : (version : Version) (tree : Named) → has_names tree ≡ true → has_signs version tree ≡ true
    → expression_of (tokens_of version (words_of (printed tree))) ≡ Some tree
printed_read version tree lawful signs =
    ap expression_of (printed_tokens version tree lawful signs) ∙ ap whole (reads tree [] lawful)

-- a tree that is printed with the names of its solids is read as it
pub printed_tree : (version : Version) (names : Words) (tree : Tree) → AreDistinctNames names
    → HasLeavesBelow (length names) tree → has_signs version (named_by names tree) ≡ true
    → show_tree version names (words_of (printed (named_by names tree))) ≡ Some tree
printed_tree version names tree are below signs = grind (arith, printed_read, names_lawful, placed_back)

pub printed_good : (version : Version) (names : Words) (tree : Tree) → AreDistinctNames names
    → HasLeavesBelow (length names) tree → has_signs version (named_by names tree) ≡ true → IsLawfulTree tree
    → show_fault version names (words_of (printed (named_by names tree))) ≡ None
printed_good version names tree are below signs within =
    grind (arith, placed_back, same_leaves, same_nesting, printed_read, names_lawful, all_known, nat_tests)

-- a version has the signs of a tree, where it has `^` or the tree has none
sign_of_op : (version : Version) (op : Op) → has_differ version || not (is_differ op) ≡ true → is_sign version op ≡ true
sign_of_op version op e = grind arith

pub signs_of : (version : Version) (names : Words) (tree : Tree)
    → has_differ version || not (has_difference tree) ≡ true → has_signs version (named_by names tree) ≡ true
signs_of version names (shown.leaf place) e = refl
signs_of version names (shown.join op left right) e =
    let each = apart_of (has_differ version) (is_differ op) (has_difference left) (has_difference right) e
    in rw (sign_of_op version op each.0, signs_of version names left each.1, signs_of version names right each.2) refl
  where
    apart_of : (b p q r : Bool) → b || not (p || q || r) ≡ true
        → (b || not p ≡ true) × (b || not q ≡ true) × (b || not r ≡ true)
    apart_of true p q r e = (refl, refl, refl)
    apart_of false false false false e = (refl, refl, refl)
    apart_of false true q r e = cc
    apart_of false false true r e = cc
    apart_of false false false true e = cc
