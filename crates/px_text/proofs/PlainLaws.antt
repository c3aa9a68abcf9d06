-- Words are plain: no byte of a number or a name is a blank, begins a comment or ends a line.
use Rattle.px_num.proofs.Basics.{common_steps, ◌≡◌, ℕ, ℤ, pos, ◌<◌, ◌≤◌, ◌^◌, ◌==◌, List, [], ◌∷◌, Bool, true, false}
use Rattle.px_num.proofs.Basics.{not, ◌&&◌, ◌||◌, if◌then◌else◌, Some, None, decimal, refl, ap, arith, suc}
use Rattle.px_num.proofs.Basics.{signed_decimal, list_all, nat_tests, list_all-append}
use lib.IntN.{negsuc}
use lib.Signed.{mag}
use Rattle.std.specs.List.{take_while}
use Rattle.px_text.specs.Text.{Words, is_blank, is_some_byte, is_digit, is_name, is_name_byte, size_of_digits}
use Rattle.px_text.specs.Written.{spaced, is_plain_byte, is_plain, are_plain, is_no_feed}
use Rattle.px_text.proofs.DecimalLaws.{size_read}

pub both : (a b : Bool) → a && b ≡ true → (a ≡ true) × (b ≡ true)
both true b e = (refl, e)
both false b e = cc

abbrev pub is_no_comment : ℕ → Bool
is_no_comment b = not (b == 35)

-- what has no comment stays whole
pub before_none : (bs : List ℕ) → list_all is_no_comment bs ≡ true → take_while is_no_comment bs ≡ bs
before_none [] all = refl
before_none (b ∷ bs) all =
    grind (arith, nat_tests, common_steps, before_none bs (both (is_no_comment b) (list_all is_no_comment bs) all).1)

pub name_bytes : (n : List ℕ) → is_name n ≡ true → list_all is_name_byte n ≡ true
name_bytes [] e = cc
name_bytes (b ∷ bs) e = grind (arith, both)

-- a byte of a word
pub record IsPlainByte (b : ℕ) : Type 0 where
  pub no_blank : is_blank b ≡ false
  pub no_comment : is_no_comment b ≡ true
  pub no_feed : is_no_feed b ≡ true

by_tests : (b : ℕ) (blank comment feed : Bool) → is_blank b ≡ blank → (b == 35) ≡ comment → (b == 10) ≡ feed
    → not (blank || comment || feed) ≡ true → IsPlainByte b
by_tests b false false false p q r is = record { no_blank = p; no_comment = ap not q; no_feed = ap not r }
by_tests b true comment feed p q r is = cc
by_tests b false true feed p q r is = cc
by_tests b false false true p q r is = cc

pub plain_byte : (b : ℕ) → is_plain_byte b ≡ true → IsPlainByte b
plain_byte b is = by_tests b (is_blank b) (b == 35) (b == 10) refl refl refl is

pub digit_plain : (b : ℕ) → is_digit b ≡ true → is_plain_byte b ≡ true
digit_plain b e = grind (arith, nat_tests)

name_plain : (b : ℕ) → is_name_byte b ≡ true → is_plain_byte b ≡ true
name_plain b e = grind (arith, nat_tests)

pub digits_plain : (w : List ℕ) → list_all is_digit w ≡ true → list_all is_plain_byte w ≡ true
digits_plain [] all = refl
digits_plain (b ∷ w) all =
    grind (arith, both, digit_plain, digits_plain w (both (is_digit b) (list_all is_digit w) all).1)

pub names_plain : (w : List ℕ) → list_all is_name_byte w ≡ true → list_all is_plain_byte w ≡ true
names_plain [] all = refl
names_plain (b ∷ w) all =
    grind (arith, both, name_plain, names_plain w (both (is_name_byte b) (list_all is_name_byte w) all).1)

sized : (ok : Bool) (m n : ℕ) → (if ok then Some m else None) ≡ Some n → ok ≡ true
sized true m n e = refl
sized false m n e = cc

size_plain : (w : List ℕ) (n : ℕ) → size_of_digits w ≡ Some n → is_plain w ≡ true
size_plain w n e = grind (arith, both, sized, digits_plain)

pub decimal_plain : (n : ℕ) → n ≤ 10 ^ 18 → is_plain (decimal n) ≡ true
decimal_plain n most = size_plain (decimal n) n (size_read n most)

pub signed_plain : (z : ℤ) → mag z < 10 ^ 18 → is_plain (signed_decimal z) ≡ true
signed_plain (pos n) most = decimal_plain n (omega arith)
signed_plain (negsuc n) most =
    (both (is_some_byte (decimal (suc n))) (list_all is_plain_byte (decimal (suc n)))
    (decimal_plain (suc n) (omega arith))).1

pub name_is_plain : (w : List ℕ) → is_name w ≡ true → is_plain w ≡ true
name_is_plain [] e = cc
name_is_plain (b ∷ w) e = names_plain (b ∷ w) (name_bytes (b ∷ w) e)

-- no feeds
pub plain_fed : (w : List ℕ) → list_all is_plain_byte w ≡ true → list_all is_no_feed w ≡ true
plain_fed [] all = refl
plain_fed (b ∷ w) all =
    grind (arith, both, plain_byte, plain_fed w (both (is_plain_byte b) (list_all is_plain_byte w) all).1)

pub spaced_fed : (ws : Words) → are_plain ws ≡ true → list_all is_no_feed (spaced ws) ≡ true
spaced_fed [] plain = refl
spaced_fed (v ∷ ws) plain =
    grind (arith, both, list_all-append, plain_fed, spaced_fed ws (both (is_plain v) (are_plain ws) plain).1)
