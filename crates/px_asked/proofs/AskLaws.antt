-- One ask after another. Upper crates cite them.
use Rattle.px_num.proofs.Basics.{◌≡◌, ℕ, List, [], ◌∷◌, ◌++◌, Option, Some, None, Result, Ok, Err, refl, sym}
use Rattle.px_num.proofs.Basics.{append_assoc, append-nil, Consumes}
use Rattle.std.specs.Io.KnownBytes.{ReadConsumes}
use Rattle.px_io.proofs.ToldLaws.{consumes_kept, consumes_none}
use Rattle.px_asked.specs.Asks.{Ask, Asked, EachTime, all_given, given}

pub asked_none : (a : Option (List Ask)) → Asked a a []
asked_none None = tt
asked_none (Some xs) = sym (append-nil xs)

pub asked_both : (a b c : Option (List Ask)) (xs ys : List Ask) → Asked a b xs → Asked b c ys → Asked a c (xs ++ ys)
asked_both None None None xs ys p q = tt
asked_both None None (Some c) xs ys p q = absurd q
asked_both None (Some b) c xs ys p q = absurd p
asked_both (Some a) None None xs ys p q = tt
asked_both (Some a) None (Some c) xs ys p q = absurd q
asked_both (Some a) (Some b) None xs ys p q = tt
asked_both (Some a) (Some b) (Some c) xs ys p q = rw (q, p) (append_assoc a xs ys)

pub given-one : (xs : List Ask) (a : Ask) → all_given (xs ++ a ∷ []) ≡ all_given xs ++ a.bytes
given-one [] a = append-nil a.bytes
given-one (x ∷ xs) a = rw (given-one xs a) (sym (append_assoc x.bytes (all_given xs) a.bytes))

-- what a read gave is what it took
pub read_gave : {E : Type 0} (s t : Option (List ℕ)) (r : Result ℕ E) (buf : List ℕ) → ReadConsumes s t r buf
    → Consumes s t (given r buf)
read_gave s t (Ok n) buf took = took.0
read_gave s t (Err e) buf kept = consumes_kept s s t [] (consumes_none s) kept

-- the bytes of asks and of more
pub given-append : (xs ys : List Ask) → all_given (xs ++ ys) ≡ all_given xs ++ all_given ys
given-append [] ys = refl
given-append (x ∷ xs) ys = rw (given-append xs ys) (sym (append_assoc x.bytes (all_given xs) (all_given ys)))

-- what held each time at first, and then each time of more
pub each_both : (H : Option (List ℕ) → List ℕ → Type 0) (text : List ℕ) (xs ys : List Ask) → EachTime H text xs
    → EachTime H (text ++ all_given xs) ys → EachTime H text (xs ++ ys)
each_both H text [] ys p q = rw (append-nil text) at q
each_both H text (x ∷ xs) ys p q =
    (p.0, each_both H (text ++ x.bytes) xs ys p.1 (rw (append_assoc text x.bytes (all_given xs)) q))

-- and what follows of it, behind other bytes
pub each_so : (H K : Option (List ℕ) → List ℕ → Type 0) (text other : List ℕ) (xs : List Ask)
    → ((told : Option (List ℕ)) (given : List ℕ) → H told (text ++ given) → K told (other ++ given))
    → EachTime H text xs → EachTime K other xs
each_so H K text other [] so p = tt
each_so H K text other (x ∷ xs) so p = (
  rw (append-nil other) at (so x.told [] (rw (append-nil text) p.0)),
  each_so H K (text ++ x.bytes) (other ++ x.bytes) xs (λ told given h.
      rw (append_assoc other x.bytes given)
      (so told (x.bytes ++ given) (rw (append_assoc text x.bytes given) at h))) p.1,
)
