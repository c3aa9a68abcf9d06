-- What left a source, at an error.
use Rattle.px_num.proofs.Basics.{ℕ, ◌≤◌, List, length, Option, Result, Ok, Err, OnErr, Consumes}
use Rattle.px_io.specs.Reports.{ConsumesAtMost}

pub on_err_consumed : {T E : Type 0} (r : Result T E) (a b : Option (List ℕ)) (bs : List ℕ) (limit : ℕ)
    → Consumes a b bs → length bs ≤ limit → OnErr r (ConsumesAtMost a b limit)
on_err_consumed (Ok x) a b bs limit p q = tt
on_err_consumed (Err e) a b bs limit p q = (bs, p, q)
