-- What the four slots of an array keep, and how its work grows. Clauses of public calls stand on it.
use Rattle.std.specs.Prelude.{◌≡◌, ℕ, ◌+◌, ◌-◌, ◌^◌, ◌≤◌, IsSome, List, Option, None, Some, min, replicate}
use Rattle.std.specs.Prelude.{slice_index_or, slice_set}
use Rattle.px_array.specs.Arrays.{Device, closed}

-- none of the four slots is saved
abbrev pub no_slots : List (Option Device)
no_slots = replicate 4 None

-- what a slot keeps
abbrev pub slot_of : List (Option Device) → (slot : ℕ) → Option Device
slot_of slots slot = slice_index_or slots slot None

abbrev pub IsSaved : List (Option Device) → (slot : ℕ) → Type 0
IsSaved slots slot = IsSome (slot_of slots slot)

-- the slots once one of them keeps the state and the clocks
abbrev pub after_save : (slot : ℕ) → Device → List (Option Device) → List (Option Device)
after_save slot device slots = slice_set slots slot (Some device)

-- the work with so many clocks more, which stops at the greatest u64
abbrev pub worked : (clocks work : ℕ) → ℕ
worked clocks work = work + min clocks (2 ^ 64 - 1 - work)

-- all that is said of an array: what is clocked, what its slots keep, and its work
pub record ArrayView : Type 0 where
  pub device : Device
  pub slots : List (Option Device)
  pub work : ℕ

-- before the first `open`, and after one that had too little memory
abbrev pub none_open : ArrayView
none_open = record { device = closed; slots = no_slots; work = 0 }

-- so many clocks more were made, and no slot changed
pub record HasWorked (clocks : ℕ) (before now : ArrayView) : Type 0 where
  pub slots : now.slots ≡ before.slots
  pub work : now.work ≡ worked clocks before.work

-- clocks were made and counted, and no slot changed
pub record HasRun (before now : ArrayView) : Type 0 where
  pub later : before.device.clocks ≤ now.device.clocks
  pub worked : HasWorked (now.device.clocks - before.device.clocks) before now

-- since the array was opened each of its clocks was made once, and none was kept: its work is its clocks, and
-- no slot is saved
pub record IsRunOnce (now : ArrayView) : Type 0 where
  pub slots : now.slots ≡ no_slots
  pub work : now.work ≡ now.device.clocks

-- the size of the grids that a slot has room for, and what it keeps, if anything
pub record SlotView : Type 0 where
  pub nx : ℕ
  pub ny : ℕ
  pub kept : Option Device

-- a slot that keeps nothing
abbrev pub empty_slot : (nx ny : ℕ) → SlotView
empty_slot nx ny = record { nx = nx; ny = ny; kept = None }

-- a slot has room for a device
abbrev pub HasRoom : Device → SlotView → Type 0
HasRoom d s = (s.nx ≡ d.state.tree.nx) × (s.ny ≡ d.state.tree.ny)
