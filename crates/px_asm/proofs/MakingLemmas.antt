-- The clocks of an operation, one after another.
use Rattle.px_num.proofs.Basics.{◌≡◌, ℕ, ◌+◌, ◌<◌, ◌≤◌, ◌∷◌, List, length, get_or, ap, arith, between, drop-cons}
use Rattle.px_num.proofs.Basics.{between_from_start, between_is, get_or-take, take_all}
use Rattle.px_asm.proofs.Words.{after_clocks, all_clocked, clocked, cycles, Device, get_or-tabulate, length-tabulate}
use Rattle.px_asm.proofs.Words.{length-take, Macro, Micro, micro_at, micros}

between_step : (ms : List Micro) (i j : ℕ) (d : Micro) → i < j → j ≤ length ms → between i j ms ≡ get_or ms i d
    ∷ between (i + 1) j ms
between_step ms i j d low within = grind (arith, length-take, between_is, drop-cons, get_or-take)

one_clocked : (m : Micro) (ms : List Micro) (d : Device) → all_clocked (m ∷ ms) d ≡ all_clocked ms (clocked m d)
one_clocked m ms d = ap (λ n. record { state = after_clocks (m ∷ ms) d.state; clocks = n }) (omega arith)

-- a clock of the operation is made, and as many are left as before but one
pub one_made : (m : Macro) (nx ny i j : ℕ) (device : Device) → i < j → j ≤ cycles m nx ny →
    all_clocked (between (i + 1) j (micros m nx ny)) (clocked (micro_at m nx ny i) device)
    ≡ all_clocked (between i j (micros m nx ny)) device
one_made m nx ny i j device low within =
    let d = micro_at m nx ny i in
    let here = get_or-tabulate (cycles m nx ny) (micro_at m nx ny) i d (omega arith) in
    let step = between_step (micros m nx ny) i j d low
    (omega (arith, length-tabulate (cycles m nx ny) (micro_at m nx ny))) in
    grind (arith, one_clocked)

-- all clocks of the operation
pub all_of_them : (m : Macro) (nx ny : ℕ) → between 0 (cycles m nx ny) (micros m nx ny) ≡ micros m nx ny
all_of_them m nx ny = grind (arith, between_from_start, take_all, length-tabulate)

pub count_of_them : (m : Macro) (nx ny : ℕ) → length (micros m nx ny) ≡ cycles m nx ny
count_of_them m nx ny = length-tabulate (cycles m nx ny) (micro_at m nx ny)
