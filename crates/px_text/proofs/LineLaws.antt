-- Lines that were cut into words, one by one and all of them, and numbers of at most 18 digits.
use Rattle.px_num.proofs.Basics.{◌≡◌, ℕ, ℤ, pos, ◌-◌, ◌<◌, ◌≤◌, ◌^◌, List, [], ◌∷◌, length, get_or, map, ap, sym, ◌∙◌}
use Rattle.px_num.proofs.Basics.{true, IfSome, arith, Bor, list_all, AllBelowBase, pow-le-pow_right, nat_tests, ints}
use Rattle.px_num.proofs.Basics.{get_or-map, length-map}
use lib.IntN.{negsuc}
use lib.Signed.{mag}
use Rattle.std.proofs.lemmas.Int.Digits.{number_lt}
use Rattle.std.proofs.lemmas.Simd.{map-map}
use Rattle.px_num.specs.Forms.{IsWithin}
use Rattle.px_text.specs.Text.{is_digit, lines_of, size_of_digits, words_of, worded}
use Rattle.px_text.proofs.PlainLaws.{both}

pub words_here : (lines : List (Bor (List ℕ))) (i : ℕ) (any : Bor (List ℕ)) → i < length lines
    → get_or (map (λ m. words_of m.now) lines) i [] ≡ words_of (get_or lines i any).now
words_here lines i any lt = get_or-map (λ (m : Bor (List ℕ)). words_of m.now) lines i any [] lt

pub words_among : (lines : List (Bor (List ℕ))) (i : ℕ) → i < length lines
    → i < length (map (λ m. words_of m.now) lines)
words_among lines i lt = omega (arith, length-map lines (λ (m : Bor (List ℕ)). words_of m.now))

pub worded_is : (lines : List (Bor (List ℕ))) (text : List ℕ) → map (λ l. l.now) lines ≡ lines_of text
    → map (λ l. words_of l.now) lines ≡ worded text
worded_is lines text e = sym (map-map words_of (λ (l : Bor (List ℕ)). l.now) lines) ∙ ap (map words_of) e

pub small_size : (most : ℕ) (z : ℤ) → most < 10 ^ 18 → IsWithin most z → mag z < 10 ^ 18
small_size most (pos n) few is = omega (arith, ints, is.0, is.1)
small_size most (negsuc n) few is = omega (arith, ints, is.0, is.1)

digit_low : (b : ℕ) → is_digit b ≡ true → b - 48 < 10
digit_low b e = grind (arith, nat_tests)

digits_low : (w : List ℕ) → list_all is_digit w ≡ true → AllBelowBase 10 (map (λ b. b - 48) w)
digits_low [] all = tt
digits_low (b ∷ w) all = grind (arith, both, digit_low, digits_low w (both (is_digit b) (list_all is_digit w) all).1)

-- the size that so many digits write at most is below that power of ten
pub size_low : (w : List ℕ) (most : ℕ) → length w ≤ most → IfSome (size_of_digits w) (λ n. n < 10 ^ most)
size_low w most few = grind (arith, length-map, pow-le-pow_right, number_lt, digits_low)
