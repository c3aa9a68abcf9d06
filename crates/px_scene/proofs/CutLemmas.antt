-- The faces below a number, and the one that has it.
use Rattle.px_num.proofs.Basics.{◌≡◌, ℕ, ◌+◌, ◌<◌, ◌≤◌, ◌==◌, List, [], ◌∷◌, ◌++◌, length, get_or, Bool, true, false}
use Rattle.px_num.proofs.Basics.{nat_lt, filter, refl, ap, arith, suc, All, AllPairs, nat_tests}
use Rattle.px_scene.proofs.CanonicalWords.{Face, has_number}

abbrev pub below : ℕ → List Face → List Face
below m faces = filter (λ f. nat_lt f.number m) faces

abbrev pub at_number : ℕ → List Face → List Face
at_number m faces = filter (λ f. f.number == m) faces

-- no face stands at a number or below it
record AreAbove (m : ℕ) (faces : List Face) : Type 0 where
  before : below m faces ≡ []
  upto : below (m + 1) faces ≡ []
  at : at_number m faces ≡ []
  none : has_number faces m ≡ false

all_above : (m : ℕ) (faces : List Face) → All (λ f. m < f.number) faces → AreAbove m faces
all_above m [] all = record { before = refl; upto = refl; at = refl; none = refl }
all_above m (f ∷ fs) all =
    let here : m < f.number = all 0 f (omega arith)
    in let later = all_above m fs (λ k d lt. all (suc k) d (omega arith))
    in let p : nat_lt f.number m ≡ false = grind (arith, nat_tests)
    in let q : nat_lt f.number (m + 1) ≡ false = grind (arith, nat_tests)
    in let r : (f.number == m) ≡ false = grind (arith, nat_tests)
    in grind arith

-- the only face of a number, and its place
pub record HasOne (m : ℕ) (faces : List Face) : Type 0 where
  pub face : Face
  pub place : ℕ
  pub only : at_number m faces ≡ face ∷ []
  pub number : face.number ≡ m
  pub within : place < length faces
  pub read : (d : Face) → get_or faces place d ≡ face

pub record IsCut (m : ℕ) (faces : List Face) : Type 0 where
  pub grown : below (m + 1) faces ≡ below m faces ++ at_number m faces
  pub absent : has_number faces m ≡ false → at_number m faces ≡ []
  pub present : has_number faces m ≡ true → HasOne m faces

pub cut : (m : ℕ) (faces : List Face) → AllPairs (λ f g. f.number < g.number) faces → IsCut m faces
cut m [] order = record { grown = refl; absent = λ e. refl; present = λ e. cc }
cut m (f ∷ fs) order = by_test (nat_lt f.number m) (f.number == m) refl refl
    (cut m fs (λ i j d lt le. order (suc i) (suc j) d (omega arith) (omega arith)))
  where
    above : m ≤ f.number → All (λ g. m < g.number) fs
    above le k d lt = let first = order 0 (suc k) d (omega arith) (omega arith) in omega arith

    by_test : (under same : Bool) → nat_lt f.number m ≡ under → (f.number == m) ≡ same → IsCut m fs → IsCut m (f ∷ fs)
    by_test true true p q later = absurd (grind (arith, nat_tests))
    by_test true false p q later =
        let r : nat_lt f.number (m + 1) ≡ true = grind (arith, nat_tests)
        in record {
          grown = rw (p, q, r) (ap (λ gs. f ∷ gs) later.grown);
          absent = λ e. rw q (later.absent (rw q at e));
          present = λ e. let found = later.present (rw q at e)
              in record {
                face = found.face;
                place = suc found.place;
                only = rw q found.only;
                number = found.number;
                within = let w = found.within in omega arith;
                read = found.read;
              };
        }
    by_test false true p q later =
        let r : nat_lt f.number (m + 1) ≡ true = grind (arith, nat_tests)
        in let is : f.number ≡ m = grind (arith, nat_tests)
        in let rest = all_above m fs (above (omega arith))
        in record {
          grown = rw (p, q, r, rest.before, rest.upto, rest.at) refl;
          absent = λ e. let no = rw q at e in cc;
          present = λ e. record {
            face = f;
            place = 0;
            only = rw (q, rest.at) refl;
            number = is;
            within = omega arith;
            read = λ d. refl;
          };
        }
    by_test false false p q later =
        let r : nat_lt f.number (m + 1) ≡ false = grind (arith, nat_tests)
        in let over : m ≤ f.number = grind (arith, nat_tests)
        in let rest = all_above m fs (above over)
        in record {
          grown = rw (p, q, r, rest.before, rest.upto, rest.at) refl;
          absent = λ e. rw (q, rest.at) refl;
          present = λ e. let no = rest.none in let some : has_number fs m ≡ true = rw q at e in cc;
        }

-- no face is below the first number, and all are below a number past the last
pub none_below : (m : ℕ) (faces : List Face) → All (λ f. m < f.number) faces → below (m + 1) faces ≡ []
none_below m faces all = (all_above m faces all).upto

pub all_below : (m : ℕ) (faces : List Face) → All (λ f. f.number < m) faces → below m faces ≡ faces
all_below m [] all = refl
all_below m (f ∷ fs) all =
    let here : f.number < m = all 0 f (omega arith)
    in let p : nat_lt f.number m ≡ true = grind (arith, nat_tests)
    in rw p (ap (λ gs. f ∷ gs) (all_below m fs (λ k d lt. all (suc k) d (omega arith))))

pub few_below : (m : ℕ) (faces : List Face) → length (below m faces) ≤ length faces
few_below m [] = omega arith
few_below m (f ∷ fs) = grind (arith, few_below m fs)
