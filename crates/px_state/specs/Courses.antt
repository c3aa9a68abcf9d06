-- What operations broadcast on a grid, clock by clock, and a new array after so many clocks. A scene's operations
-- are those of the listing of its passes. Clauses of public calls stand on it.
use Rattle.std.specs.Prelude.{◌≡◌, ℕ, ◌+◌, ◌<◌, List, Some, length, slice_get, take}
use Rattle.px_array.specs.Arrays.{Device, zero_state}
use Rattle.px_array.specs.Clocks.{after_clocks}
use Rattle.px_array.specs.declared.micro.Micro.{Micro}
use Rattle.px_asm.specs.Micros.{all_micros, cycles}
use Rattle.px_macro.specs.declared.operation.Macro.{Macro}
use Rattle.px_listing.specs.Listings.{ListingView}

-- the micros of the operations, one after another
abbrev pub broadcasts : ListingView → List Micro
broadcasts l = all_micros l.macros l.nx l.ny

-- how many clocks they take
abbrev pub total_of_listing : ListingView → ℕ
total_of_listing l = length (broadcasts l)

-- a new array with pixels of so many memory bits after the first n broadcasts
abbrev pub device_after : (bits : ℕ) → ListingView → (n : ℕ) → Device
device_after bits l n = record { state = after_clocks (take n (broadcasts l)) (zero_state bits l.nx l.ny); clocks = n }

-- the clock at which an operation begins
abbrev pub start_in_listing : ListingView → (operation : ℕ) → ℕ
start_in_listing l operation = length (all_micros (take operation l.macros) l.nx l.ny)

-- an operation is one of these, and has that cycle, counted from 0
pub record HasCycle (l : ListingView) (operation cycle : ℕ) : Type 0 where
  pub m : Macro
  pub is : slice_get l.macros operation ≡ Some m
  pub within : cycle < cycles m l.nx l.ny

-- the broadcast behind the first n is this micro, and it is that cycle of that operation
pub record IsNextBroadcast (l : ListingView) (n operation cycle : ℕ) (micro : Micro) : Type 0 where
  pub clock : n ≡ start_in_listing l operation + cycle
  pub has : HasCycle l operation cycle
  pub broadcast : slice_get (broadcasts l) n ≡ Some micro
