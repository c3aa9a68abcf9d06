-- The laws of reported bytes over several calls in a row.
use Rattle.px_num.proofs.Basics.{◌≡◌, ℕ, ◌+◌, ◌-◌, Bool, List, [], ◌++◌, take, drop, length, Option, Some, None, Result}
use Rattle.px_num.proofs.Basics.{Ok, Err, OnErr, append_assoc, append-nil, refl, sym, arith, length-append, length-drop}
use Rattle.px_num.proofs.Basics.{zero, suc, take-add, take-append-add, take_all, Appends, Consumes, Keeps}
use Rattle.std.proofs.lemmas.List.{take-append-le as take_within}
use Rattle.px_io.specs.Reports.{Reopens, SinkState, TakesAll, TakesFront, TakesNone}

-- first xs were appended, and then ys
pub appends_both : (a b c : Option (List ℕ)) (xs ys : List ℕ) → Appends a b xs → Appends b c ys → Appends a c (xs ++ ys)
appends_both None b c xs ys p q = tt
appends_both (Some a) None c xs ys p q = absurd p
appends_both (Some a) (Some b) None xs ys p q = absurd q
appends_both (Some a) (Some b) (Some c) xs ys p q = rw (q, p) (append_assoc a xs ys)

-- nothing was appended
pub appends_none : (a : Option (List ℕ)) → Appends a a []
appends_none None = tt
appends_none (Some a) = sym (append-nil a)

-- xs were appended, and then nothing
pub appends_kept : (a b c : Option (List ℕ)) (xs : List ℕ) → Appends a b xs → Keeps b c → Appends a c xs
appends_kept None b c xs p q = tt
appends_kept (Some a) None c xs p q = absurd p
appends_kept (Some a) (Some b) None xs p q = absurd q
appends_kept (Some a) (Some b) (Some c) xs p q = rw q p

-- a sink that took m bytes and then n
pub reopens_both : (f g h : Option Bool) (m n : ℕ) → Reopens f g m → Reopens g h n → Reopens f h (m + n)
reopens_both f g h m zero first second = grind arith
reopens_both f g h m (suc n) first second = grind arith

pub keeps_same : (a : Option (List ℕ)) → Keeps a a
keeps_same None = tt
keeps_same (Some a) = refl

-- a sink that took nothing, by two words
pub stays : (a : SinkState) → TakesNone a a
stays a = record { all = keeps_same a.written; end = refl }

pub takes_none : (a : SinkState) → TakesAll a a []
takes_none a = grind (arith, appends_none)

-- all of xs, and then all of ys
pub takes_both : (a b c : SinkState) (xs ys : List ℕ) → TakesAll a b xs → TakesAll b c ys → TakesAll a c (xs ++ ys)
takes_both a b c xs ys first second = grind (arith, appends_both, length-append, reopens_both)

-- all of xs, and then a front of ys
pub front_after : (a b c : SinkState) (xs ys : List ℕ) → TakesAll a b xs → TakesFront b c ys → TakesFront a c (xs ++ ys)
front_after a b c xs ys first (n, second) = (
  length xs + n,
  record {
    within = omega (arith, second.within, length-append xs ys);
    front = rw take-append-add (appends_both a.written b.written c.written xs (take n ys) first.all second.front);
    end = reopens_both a.finished b.finished c.finished (length xs) n first.end second.end;
  },
)

-- a front of xs is one of all that begins with xs
pub front_before : (a b : SinkState) (xs ys : List ℕ) → TakesFront a b xs → TakesFront a b (xs ++ ys)
front_before a b xs ys (n, first) = grind (arith, length-append, take_within)

-- all of xs, and then nothing, is a front of xs
pub front_all : (a b c : SinkState) (xs : List ℕ) → TakesAll a b xs → Keeps b.written c.written
    → c.finished ≡ b.finished → TakesFront a c xs
front_all a b c xs first kept same = grind (arith, take_all, appends_kept)

-- the first i of xs, and then the first n of the others, are the first i + n
pub appends_more : (a b c : Option (List ℕ)) (xs : List ℕ) (i n m : ℕ) → m ≡ length xs - i → Appends a b (take i xs)
    → Appends b c (take n (take m (drop i xs))) → Appends a c (take (i + n) xs)
appends_more a b c xs i n m e p q = grind (arith, take_all, length-drop, take-add, appends_both)

-- nothing left
pub consumes_none : (a : Option (List ℕ)) → Consumes a a []
consumes_none None = tt
consumes_none (Some a) = refl

-- first xs left, and then ys
pub consumes_both : (a b c : Option (List ℕ)) (xs ys : List ℕ) → Consumes a b xs → Consumes b c ys
    → Consumes a c (xs ++ ys)
consumes_both None b c xs ys p q = tt
consumes_both (Some a) None c xs ys p q = absurd p
consumes_both (Some a) (Some b) None xs ys p q = absurd q
consumes_both (Some a) (Some b) (Some c) xs ys p q = rw (p, q) (sym (append_assoc xs ys c))

-- xs left, and then nothing
pub consumes_kept : (a b c : Option (List ℕ)) (xs : List ℕ) → Consumes a b xs → Keeps b c → Consumes a c xs
consumes_kept None b c xs p q = tt
consumes_kept (Some a) None c xs p q = absurd p
consumes_kept (Some a) (Some b) None xs p q = absurd q
consumes_kept (Some a) (Some b) (Some c) xs p q = rw q p

-- what holds at an error, and what follows from it
pub on_err : {T E P : Type 0} (r : Result T E) → P → OnErr r P
on_err (Ok x) p = tt
on_err (Err x) p = p

pub on_err_by : {T E : Type 0} {P Q : Type 0} (r : Result T E) → OnErr r P → (P → Q) → OnErr r Q
on_err_by (Ok x) p f = tt
on_err_by (Err e) p f = f p
