-- A text is past its limit exactly where it fills what is read of it.
use Rattle.px_num.proofs.Basics.{ℕ, ◌≡◌, ◌<◌, ◌≤◌, true, false, nat_lt, arith, List, length, nat_tests}
use Rattle.px_text.specs.declared.text.TheConstants.{MAX_TEXT_BYTES}
use Rattle.px_commands.specs.declared.refusal.TheConstants.{READ_LIMIT}
use Rattle.px_commands.specs.Refusals.{is_long}

over : (n : ℕ) → 1048577 ≤ n → nat_lt 1048576 n ≡ true
over n filled = grind (arith, nat_tests)

under : (n : ℕ) → n ≤ 1048576 → nat_lt 1048576 n ≡ false
under n most = grind (arith, nat_tests)

pub past_limit : (n : ℕ) → READ_LIMIT ≤ n → nat_lt MAX_TEXT_BYTES n ≡ true
past_limit n filled = over n filled

pub at_most : (n : ℕ) → n ≤ MAX_TEXT_BYTES → nat_lt MAX_TEXT_BYTES n ≡ false
at_most n most = under n most

pub not_filled : (n : ℕ) → n < READ_LIMIT → nat_lt MAX_TEXT_BYTES n ≡ false
not_filled n less = under n (omega (arith, less))

pub long_is : (bytes : List ℕ) → 1048577 ≤ length bytes → is_long bytes ≡ true
unfolding is_long
long_is bytes long = past_limit (length bytes) long

pub short_is : (bytes : List ℕ) → length bytes < 1048577 → is_long bytes ≡ false
unfolding is_long
short_is bytes short = not_filled (length bytes) short
