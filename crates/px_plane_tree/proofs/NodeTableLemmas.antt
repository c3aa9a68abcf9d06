-- The node table on the bits of words.
use Rattle.px_num.proofs.Basics.{◌≡◌, ℕ, ◌%◌, ◌<◌, true, false, eqb, List, [], ◌∷◌, length, get_or, sym, ap, ◌∙◌}
use Rattle.px_num.proofs.Basics.{arith, bit_and, bit_or, bit_xor, nat_tests, length-zip2, get_or-zip2, zip2}
use Rattle.px_plane_tree.proofs.Words.{and_at, or_at, xor_at, IsNext, IsOdd, nat_bit, odd_bits}

abbrev pub odds : List ℕ
odds = 0xaaaa_aaaa_aaaa_aaaa ∷ 0xaaaa_aaaa_aaaa_aaaa ∷ []

odds_at : (i : ℕ) → i < 2 → get_or odds i 0 ≡ 0xaaaa_aaaa_aaaa_aaaa
odds_at x h = grind arith

long2 : (f : ℕ → ℕ → ℕ) (xs ys : List ℕ) → length xs ≡ 2 → length ys ≡ 2 → length (zip2 f xs ys) ≡ 2
long2 f xs ys hx hy = length-zip2 f xs ys (hx ∙ sym hy) ∙ hx

lane : (f : ℕ → ℕ → ℕ) (xs ys : List ℕ) (i : ℕ) → length xs ≡ 2 → length ys ≡ 2 → i < 2 → get_or (zip2 f xs ys) i 0
    ≡ f (get_or xs i 0) (get_or ys i 0)
lane f xs ys i hx hy h = get_or-zip2 f xs ys i 0 0 0 (omega arith) (omega arith)

odds_bit : (i j : ℕ) → i < 2 → j < 64 → nat_bit (get_or odds i 0) j ≡ eqb (j % 2) 1
odds_bit i j h l = ap (λ n. nat_bit n j) (odds_at i h) ∙ odd_bits j l

module _ (both old : List ℕ) (hb : length both ≡ 2) (ho : length old ≡ 2) (e : IsOdd old) where
  old_even : (i j : ℕ) → i < 2 → j < 64 → eqb (j % 2) 1 ≡ false → nat_bit (get_or old i 0) j ≡ false
  old_even i j h l n = e.each i j h l (grind (arith, nat_tests))

  pub next_with_law : IsNext (λ i j. true) both old (zip2 bit_xor both (zip2 bit_xor old odds))
      (zip2 bit_or (zip2 bit_and both odds) old)
  next_with_law = grind (arith, bit_xor, long2, odds_bit, old_even, bit_and, lane, and_at, bit_or, or_at, xor_at)

  pub next_without_law : IsNext (λ i j. false) both old (zip2 bit_xor both old) (zip2 bit_and both old)
  next_without_law = grind (arith, old_even, lane, bit_and, and_at, bit_xor, xor_at)

  pub next_by_law : (lines : List ℕ) → length lines ≡ 2 → IsOdd lines
      → IsNext (λ i j. nat_bit (get_or lines i 0) j) both old (zip2 bit_xor both (zip2 bit_xor old lines))
      (zip2 bit_or (zip2 bit_and both (zip2 bit_or old lines)) (zip2 bit_and old lines))
  next_by_law lines hl d =
      grind (arith, bit_xor, long2, old_even, lane, bit_and, and_at, nat_tests, bit_or, or_at, xor_at)
