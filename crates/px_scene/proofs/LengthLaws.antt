-- How long the parts of a written line are.
use Rattle.px_num.proofs.Basics.{◌≡◌, ℕ, ℤ, pos, ◌+◌, ◌*◌, ◌<◌, ◌≤◌, ◌^◌, List, [], ◌∷◌, ◌++◌, length, true, decimal}
use Rattle.px_num.proofs.Basics.{arith, length-append, signed_decimal, AllPass, ints, length-decimal-le}
use Rattle.px_scene.proofs.CanonicalWords.{both, Colour, colour_words, HasLeavesBelow, is_name, IsColour, IsPlane}
use Rattle.px_scene.proofs.CanonicalWords.{IsWithin}
use Rattle.px_scene.proofs.CanonicalWords.{leaf_count, Linear, named_by, printed, spaced, Tree, Words, words_of_plane}
use lib.IntN.{negsuc}
use Rattle.std.proofs.lemmas.Fmt.{length_signed_le}
use Rattle.px_expr.specs.Tree.{leaf, join}
use Rattle.px_scene.specs.Canonical.{written_line}

pub joined : (xs ys : List ℕ) (m n : ℕ) → length xs ≤ m → length ys ≤ n → length (xs ++ ys) ≤ m + n
joined xs ys m n some more = omega (arith, length-append xs ys)

pub decimal_short : (n : ℕ) → n < 1000 → length (decimal n) ≤ 3
decimal_short n few = length-decimal-le 3 n (omega arith) (omega arith) (omega arith)

signed_short : (z : ℤ) → IsWithin (2 ^ 33) z → length (signed_decimal z) ≤ 11
signed_short (pos n) is = let high = is.1 in length_signed_le 10 (pos n) (omega (arith, ints)) (omega (arith, ints))
signed_short (negsuc n) is = let low = is.0
    in length_signed_le 10 (negsuc n) (omega (arith, ints)) (omega (arith, ints))

wider : (z : ℤ) → IsWithin (2 ^ 23) z → IsWithin (2 ^ 33) z
wider z is = let low = is.0 in let high = is.1 in (omega (arith, ints), omega (arith, ints))

pub plane_short : (p : Linear) → IsPlane p → length (spaced (words_of_plane p)) ≤ 36
plane_short p is = grind (arith, joined, signed_short, wider)

pub colour_short : (c : Colour) → IsColour c → length (spaced (colour_words c)) ≤ 12
colour_short c is = grind (arith, joined, decimal_short)

pub line_short : (w : List ℕ) (ws : Words) (m n : ℕ) → length w ≤ m → length (spaced ws) ≤ n
    → length (written_line w ws) ≤ m + n + 1
unfolding written_line
line_short w ws m n some more =
    joined (w ++ spaced ws) (10 ∷ []) (m + n) 1 (joined w (spaced ws) m n some more) (omega arith)

pub name_short : (w : List ℕ) → is_name w ≡ true → length w ≤ 32
name_short [] e = omega arith
name_short (b ∷ w) e = grind (arith, both)

pub tree_short : (names : Words) (tree : Tree) → AllPass is_name names → HasLeavesBelow (length names) tree
    → length (printed (named_by names tree)) + 5 ≤ 37 * leaf_count tree
tree_short names (leaf place) lawful within = grind (arith, name_short)
tree_short names (join op left right) lawful within =
    grind (arith, length-append, tree_short names left lawful within.0, tree_short names right lawful within.1)
