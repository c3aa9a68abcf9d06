-- The broadcasts of operations, one operation after another.
use Rattle.px_state.proofs.Cited.{after_clocks, after_clocks-append, all_clocked, all_micros, ap, arith, below_total}
use Rattle.px_state.proofs.Cited.{between, between_from_start, broadcasts, cycles, Device, device_after, drop}
use Rattle.px_state.proofs.Cited.{drop-cons, flat_map, flat_map-append, flat_map-cons, get_or, get_or_from_slice_get}
use Rattle.px_state.proofs.Cited.{IsNextBroadcast, length, length-tabulate, length-take-le, List, ListingView, Macro}
use Rattle.px_state.proofs.Cited.{Micro, micro_at, micro_here, micros, nx-after_clocks, ny-after_clocks, slice_get}
use Rattle.px_state.proofs.Cited.{slice_get-get_or, slice_get_within, Some, start_in_listing, start_more, suc, sym}
use Rattle.px_state.proofs.Cited.{take, take-append-add, take-append-drop, take-append-le, take-append_seam}
use Rattle.px_state.proofs.Cited.{zero_state, ℕ, ◌++◌, ◌+◌, ◌<◌, ◌∙◌, ◌∷◌, ◌≡◌, ◌≤◌}
use Rattle.px_macro.specs.declared.operation.Macro.TheVariants as op

-- the micro of a cycle is the broadcast at its clock
pub broadcast_here : (l : ListingView) (k i : ℕ) (m : Macro) → slice_get l.macros k ≡ Some m → i < cycles m l.nx l.ny
    → slice_get (broadcasts l) (start_in_listing l k + i) ≡ Some (micro_at m l.nx l.ny i)
broadcast_here l k i m here within =
    let d = micro_at m l.nx l.ny i in
    slice_get-get_or (broadcasts l) (start_in_listing l k + i) d (below_total l.macros l.nx l.ny k i m here within)
    ∙ ap (λ x. Some x) (micro_here l.macros l.nx l.ny k i m d here within)

pub next_here : (l : ListingView) (n k i : ℕ) (m : Macro) (micro : Micro) → slice_get l.macros k ≡ Some m
    → i < cycles m l.nx l.ny → n ≡ start_in_listing l k + i → micro ≡ micro_at m l.nx l.ny i
    → IsNextBroadcast l n k i micro
next_here l n k i m micro here within at is = grind (arith, broadcast_here)

-- operation k of a list, and where the next begins
pub begins : (l : ListingView) (k : ℕ) (m : Macro) → slice_get l.macros k ≡ Some m
    → start_in_listing l (k + 1) ≡ start_in_listing l k + cycles m l.nx l.ny
begins l k m here = start_more l.macros l.nx l.ny k m here

-- the broadcasts up to a cycle of an operation
pub front_with : (l : ListingView) (k i : ℕ) (m : Macro) → slice_get l.macros k ≡ Some m → i ≤ cycles m l.nx l.ny →
    take (start_in_listing l k + i) (broadcasts l) ≡ take (start_in_listing l k) (broadcasts l)
    ++ take i (micros m l.nx l.ny)
front_with l k i m here within =
    let f : Macro → List Micro = λ m. micros m l.nx l.ny in
    let inside = slice_get_within l.macros k m here in
    let before = all_micros (take k l.macros) l.nx l.ny in
    let rest = all_micros (drop (suc k) l.macros) l.nx l.ny in
    let cut : drop k l.macros ≡ m ∷ drop (suc k) l.macros =
    rw (get_or_from_slice_get l.macros k m m here) at (drop-cons l.macros k m inside) in
    let parts : broadcasts l ≡ before ++ (micros m l.nx l.ny ++ rest) =
    ap (flat_map f) (sym (take-append-drop k l.macros))
    ∙ (flat_map-append f (take k l.macros) (drop k l.macros)
    ∙ ap (λ ms. before ++ ms) (ap (flat_map f) cut ∙ flat_map-cons f m (drop (suc k) l.macros))) in
    let count : i ≤ length (micros m l.nx l.ny) =
    omega (arith, length-tabulate (cycles m l.nx l.ny) (micro_at m l.nx l.ny), within) in
    let front : take (length before) (broadcasts l) ≡ before =
    ap (take (length before)) parts ∙ take-append_seam before (micros m l.nx l.ny ++ rest) in
    ap (take (length before + i)) parts
    ∙ (take-append-add before (micros m l.nx l.ny ++ rest) i
    ∙ (ap (λ ms. before ++ ms) (take-append-le i (micros m l.nx l.ny) rest count)
    ∙ ap (λ ms. ms ++ take i (micros m l.nx l.ny)) (sym front)))

-- a new array goes on by the first cycles of an operation
pub device_with : (bits : ℕ) (l : ListingView) (k i : ℕ) (m : Macro) → slice_get l.macros k ≡ Some m
    → i ≤ cycles m l.nx l.ny →
    all_clocked (between 0 i (micros m l.nx l.ny)) (device_after bits l (start_in_listing l k))
    ≡ device_after bits l (start_in_listing l k + i)
device_with bits l k i m here within =
    let zeros = zero_state bits l.nx l.ny in
    let ms = take i (micros m l.nx l.ny) in
    let front = between_from_start (micros m l.nx l.ny) i in
    let count : length ms ≡ i =
    length-take-le i (micros m l.nx l.ny)
    (omega (arith, length-tabulate (cycles m l.nx l.ny) (micro_at m l.nx l.ny), within)) in
    let state : after_clocks (take (start_in_listing l k + i) (broadcasts l)) zeros
    ≡ after_clocks ms (after_clocks (take (start_in_listing l k) (broadcasts l)) zeros) =
    ap (λ ms. after_clocks ms zeros) (front_with l k i m here within)
    ∙ after_clocks-append (take (start_in_listing l k) (broadcasts l)) ms zeros in
    ap (λ ms. all_clocked ms (device_after bits l (start_in_listing l k))) front
    ∙ (ap (λ s. record { state = s; clocks = start_in_listing l k + length ms }) (sym state)
    ∙ ap (λ n. record {
      state = after_clocks (take (start_in_listing l k + i) (broadcasts l)) zeros;
      clocks = start_in_listing l k + n;
    }) count)

-- the operation at a place
pub here_in : (ms : List Macro) (i : ℕ) → i < length ms → slice_get ms i ≡ Some (get_or ms i op.All)
here_in ms i within = slice_get-get_or ms i op.All within

-- the grid is that of the listing
pub columns_are : (bits : ℕ) (l : ListingView) (n : ℕ) (device : Device) → device ≡ device_after bits l n
    → device.state.tree.nx ≡ l.nx
columns_are bits l n device is = grind (arith, nx-after_clocks)

pub rows_are : (bits : ℕ) (l : ListingView) (n : ℕ) (device : Device) → device ≡ device_after bits l n
    → device.state.tree.ny ≡ l.ny
rows_are bits l n device is = grind (arith, ny-after_clocks)

-- an array goes on by the first cycles of an operation
pub goes_on : (bits : ℕ) (l : ListingView) (i made start : ℕ) (m : Macro) (d new : Device)
    → slice_get l.macros i ≡ Some m → made ≤ cycles m l.nx l.ny → start ≡ start_in_listing l i
    → d ≡ device_after bits l start
    → new ≡ all_clocked (between 0 made (micros m d.state.tree.nx d.state.tree.ny)) d
    → new ≡ device_after bits l (start + made)
goes_on bits l i made start m d new here within begun at clocked = grind (arith, micros, columns_are, rows_are, all_clocked, between, device_with)
