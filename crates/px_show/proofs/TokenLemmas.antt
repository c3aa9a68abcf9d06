-- The first token of a word.
use Rattle.px_num.proofs.Basics.{◌≡◌, ℕ, ◌+◌, ◌≤◌, List, [], ◌∷◌, length, get_or, take, drop, Bool, true, false, cond}
use Rattle.px_num.proofs.Basics.{refl, ◌∙◌, arith}
use Rattle.px_show.proofs.Words.{is_name_byte, mark, name, Token, tokens_in, Version, with_name_byte}
use Rattle.std.proofs.Math.Numerals.{one-add}
use Rattle.std.specs.List.{prefix_len}

-- a mark is no part of a name
pub apart : (version : Version) (b x : ℕ) (ts : List Token) → with_name_byte b (mark version x ∷ ts) ≡ name (b ∷ [])
    ∷ mark version x ∷ ts
apart version b x ts = grind arith

-- a name that a byte begins goes on as long as there are bytes of names
begun : (version : Version) (b : ℕ) (bs : List ℕ) (n : ℕ) → n ≡ prefix_len is_name_byte bs
    → with_name_byte b (tokens_in version bs) ≡ name (b ∷ take n bs) ∷ tokens_in version (drop n bs)
begun version b [] n e = rw e refl
begun version b (x ∷ xs) n e =
    by_test (is_name_byte x) n (tokens_in version (x ∷ xs)) (begun version x xs _ refl) e refl refl
  where
    run : ℕ
    run = prefix_len is_name_byte xs

    by_test : (test : Bool) (n : ℕ) (all : List Token) → with_name_byte x (tokens_in version xs)
        ≡ name (x ∷ take run xs)
        ∷ tokens_in version (drop run xs)
        → n ≡ cond test (1 + run) 0 → all ≡ cond test (with_name_byte x (tokens_in version xs))
        (mark version x ∷ tokens_in version xs) → all ≡ tokens_in version (x ∷ xs)
        → with_name_byte b all ≡ name (b ∷ take n (x ∷ xs)) ∷ tokens_in version (drop n (x ∷ xs))
    by_test true n all later e is whole = rw (e ∙ one-add run, is, later) refl
    by_test false n all later e is whole = rw (e, ← whole, is) (apart version b x (tokens_in version xs))

pub first_name : (version : Version) (bs : List ℕ) (n : ℕ) → 1 ≤ length bs → is_name_byte (get_or bs 0 0) ≡ true
    → n ≡ prefix_len is_name_byte bs → tokens_in version bs ≡ name (take n bs) ∷ tokens_in version (drop n bs)
first_name version [] n some is e = absurd (omega arith)
first_name version (b ∷ bs) n some is e = by_test (is_name_byte b) n is e
  where
    by_test : (test : Bool) (n : ℕ) → test ≡ true → n ≡ cond test (1 + prefix_len is_name_byte bs) 0
        → cond test (with_name_byte b (tokens_in version bs))
        (mark version b ∷ tokens_in version bs) ≡ name (take n (b ∷ bs)) ∷ tokens_in version (drop n (b ∷ bs))
    by_test true n is e = rw (e ∙ one-add (prefix_len is_name_byte bs)) (begun version b bs _ refl)
    by_test false n is e = cc
