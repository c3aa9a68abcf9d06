-- What is put into pieces one after another.
use Rattle.px_num.proofs.Basics.{arith, ◌≡◌, ℕ, List, [], ◌++◌, Result, Ok, Err, OnErr, OnOk, append_assoc, sym, ap}
use Rattle.px_num.proofs.Basics.{◌∙◌, nat_tests, common_steps}
use Rattle.px_listing.proofs.Words.{front_after, front_before, Puts, takes_both, takes_none}
use Rattle.std.proofs.lemmas.List.{append-nil}
use Rattle.px_io.specs.Reports.{SinkState, TakesAll, TakesFront}

-- first xs, and then ys
pub puts_both : (a b c : SinkState) (u v w xs ys : List ℕ) → Puts a b u xs v → Puts b c v ys w → Puts a c u (xs ++ ys) w
puts_both a b c u v w xs ys first second = record {
  taken = first.taken ++ second.taken;
  all = takes_both a b c first.taken second.taken first.all second.all;
  rest = grind (arith, append_assoc);
}

-- first xs, and then a front of what waits and ys
pub puts_broken : (a b c : SinkState) (u v xs ys : List ℕ)
    → Puts a b u xs v → TakesFront b c (v ++ ys) → TakesFront a c (u ++ (xs ++ ys))
puts_broken a b c u v xs ys first second =
    let whole : first.taken ++ (v ++ ys) ≡ u ++ (xs ++ ys) =
    sym (append_assoc first.taken v ys) ∙ (ap (λ bytes. bytes ++ ys) first.rest ∙ append_assoc u xs ys) in
    rw whole at (front_after a b c first.taken (v ++ ys) first.all second)

-- a front of what waits and ys, which are in a whole after xs
pub puts_cut : (a b c : SinkState) (u v xs ys rest whole : List ℕ) → xs ++ (ys ++ rest) ≡ whole → Puts a b u xs v
    → TakesFront b c (v ++ ys) → TakesFront a c (u ++ whole)
puts_cut a b c u v xs ys rest whole is first second =
    let all : (u ++ (xs ++ ys)) ++ rest ≡ u ++ whole =
    append_assoc u (xs ++ ys) rest ∙ ap (λ bytes. u ++ bytes) (append_assoc xs ys rest ∙ is) in
    rw all at (front_before a c (u ++ (xs ++ ys)) rest (puts_broken a b c u v xs ys first second))

-- first xs, of which nothing waits then, and nothing had waited
pub puts_all : (a b : SinkState) (u xs : List ℕ) → Puts a b u xs [] → TakesAll a b (u ++ xs)
puts_all a b u xs first = rw (sym (append-nil first.taken) ∙ first.rest) at first.all

-- nothing was done
pub puts_none : (a : SinkState) (u : List ℕ) → Puts a a u [] u
puts_none a u = record { taken = []; all = takes_none a; rest = sym (append-nil u) }

-- first xs, and then all of what waits and ys
takes_behind : (a b c : SinkState) (u v xs ys : List ℕ)
    → Puts a b u xs v → TakesAll b c (v ++ ys) → TakesAll a c (u ++ (xs ++ ys))
takes_behind a b c u v xs ys first second = grind (arith, nat_tests, common_steps, append_assoc, takes_both)

-- the same where an answer says it of ys
pub ok_both : {T E : Type 0} (r : Result T E) (a b c : SinkState) (u v w xs ys : List ℕ)
    → Puts a b u xs v → OnOk r (Puts b c v ys w) → OnOk r (Puts a c u (xs ++ ys) w)
ok_both (Ok x) a b c u v w xs ys first second = puts_both a b c u v w xs ys first second
ok_both (Err x) a b c u v w xs ys first second = tt

pub ok_all : {T E : Type 0} (r : Result T E) (a b c : SinkState) (u v xs ys whole : List ℕ) → xs ++ ys ≡ whole
    → Puts a b u xs v → OnOk r (TakesAll b c (v ++ ys)) → OnOk r (TakesAll a c (u ++ whole))
ok_all (Ok x) a b c u v xs ys whole is first second = rw is at (takes_behind a b c u v xs ys first second)
ok_all (Err x) a b c u v xs ys whole is first second = tt

-- all of xs was written, once what waits was
pub ok_flushed : {T E : Type 0} (r : Result T E) (a b c : SinkState) (v w xs : List ℕ)
    → Puts a b [] xs v → OnOk r (w ≡ []) → OnOk r (Puts b c v [] w) → OnOk r (TakesAll a c xs)
ok_flushed r a b c v w xs h p q = grind (arith, common_steps, puts_all)

pub err_cut : {T E : Type 0} (r : Result T E) (a b c : SinkState)
    (u v xs ys rest whole : List ℕ) → xs ++ (ys ++ rest) ≡ whole
    → Puts a b u xs v → OnErr r (TakesFront b c (v ++ ys)) → OnErr r (TakesFront a c (u ++ whole))
err_cut (Ok x) a b c u v xs ys rest whole is first second = tt
err_cut (Err x) a b c u v xs ys rest whole is first second = puts_cut a b c u v xs ys rest whole is first second
