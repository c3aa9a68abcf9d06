-- A number that is written in decimal digits is read as it.
use Rattle.px_num.proofs.Basics.{◌≡◌, ℕ, ℤ, pos, ◌+◌, ◌-◌, ◌<◌, ◌≤◌, ◌^◌, List, [], ◌∷◌, ◌++◌, map, Some, None, true}
use Rattle.px_num.proofs.Basics.{false, decimal, refl, ap, ◌∙◌, arith, zero, suc, list_all, signed_decimal}
use Rattle.px_num.proofs.Basics.{AllBelowBase}
use lib.IntN.{negsuc}
use lib.Signed.{mag}
use Rattle.std.specs.Int.Digits.{digits_of}
use Rattle.std.proofs.lemmas.Fmt.{decimal-digits_of, decimal_digit}
use Rattle.std.proofs.lemmas.Int.Digits.{number_digits_of, all_below_base_digits_of, digits_of_step}
use Rattle.px_text.specs.Text.{is_some_byte, is_digit, size_of_digits, negative, number_of}

digits_all : (ds : List ℕ) → AllBelowBase 10 ds → list_all is_digit (map (λ d. 48 + d) ds) ≡ true
digits_all [] below = refl
digits_all (d ∷ ds) below = grind (arith, digits_all ds below.1)

digits_back : (ds : List ℕ) → map (λ b. b - 48) (map (λ d. 48 + d) ds) ≡ ds
digits_back [] = refl
digits_back (d ∷ ds) = grind (arith, digits_back ds)

some_last : (ds : List ℕ) (d : ℕ) → is_some_byte (map (λ c. 48 + c) (ds ++ d ∷ [])) ≡ true
some_last [] d = refl
some_last (c ∷ ds) d = refl

some_digit : (n : ℕ) → 0 < n → is_some_byte (map (λ c. 48 + c) (digits_of 10 n)) ≡ true
some_digit n some = grind (arith, digits_of_step, some_last)

size_digits : (n : ℕ) → 0 < n → n ≤ 10 ^ 18 → size_of_digits (map (λ d. 48 + d) (digits_of 10 n)) ≡ Some n
size_digits n some most = grind (arith, some_digit, digits_all, all_below_base_digits_of, digits_back, number_digits_of)

pub size_read : (n : ℕ) → n ≤ 10 ^ 18 → size_of_digits (decimal n) ≡ Some n
size_read zero most = ap size_of_digits (decimal_digit 0 (omega arith))
size_read (suc n) most = ap size_of_digits (decimal-digits_of (suc n) (omega arith) (omega arith))
    ∙ size_digits (suc n) (omega arith) most

no_digits : (b : ℕ) (bs : List ℕ) → is_digit b ≡ false → size_of_digits (b ∷ bs) ≡ None
no_digits b bs other = rw other refl

number_positive : (bs : List ℕ) (n : ℕ) → size_of_digits bs ≡ Some n → number_of bs ≡ Some (pos n)
number_positive [] n is = cc
number_positive (b ∷ bs) n is = grind (arith, no_digits)

pub number_read : (n : ℕ) → n ≤ 10 ^ 18 → number_of (decimal n) ≡ Some (pos n)
number_read n most = number_positive (decimal n) n (size_read n most)

pub signed_read : (z : ℤ) → mag z < 10 ^ 18 → number_of (signed_decimal z) ≡ Some z
signed_read (pos n) most = number_read n (omega arith)
signed_read (negsuc n) most = ap negative (size_read (suc n) (omega arith))
