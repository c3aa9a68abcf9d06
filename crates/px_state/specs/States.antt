-- What a state says of a grid after so many clocks. Clauses of public calls stand on it.
use Rattle.std.specs.Prelude.{◌≡◌, ◌⊎◌, ℕ, IfNone, IfSome, length}
use Rattle.px_listing.specs.Listings.{ListingView}
use Rattle.px_tree.specs.Nodes.{IsGrid}
use Rattle.px_array.specs.Slots.{ArrayView, IsRunOnce, none_open}
use Rattle.px_state.specs.Courses.{IsNextBroadcast, device_after, total_of_listing}
use Rattle.px_state.specs.declared.fault.StateFault.{StateFault}
use Rattle.px_state.specs.declared.fault.StateFault.TheVariants as f
use Rattle.px_state.specs.declared.state.Course.{Course}
use Rattle.px_state.specs.declared.state.State.{State}

pub record IsState (bits : ℕ) (l : ListingView) (clock : ℕ) (s : State) : Type 0 where
  pub columns : s.nx ≡ l.nx
  pub rows : s.ny ≡ l.ny
  pub grid : IsGrid s.nx s.ny
  pub bits_is : s.bits ≡ bits
  pub operations : s.operations ≡ length l.macros
  pub clocks : s.clocks ≡ total_of_listing l
  pub clock_is : s.clock ≡ clock
  pub next : IfSome s.next (λ n. IsNextBroadcast l clock n.operation n.cycle n.micro)
  pub end : IfNone s.next (clock ≡ total_of_listing l)

pub record IsCourse (l : ListingView) (c : Course) : Type 0 where
  pub operations : c.operations ≡ length l.macros
  pub clocks : c.clocks ≡ total_of_listing l

-- the array was opened for it, and each clock made once
pub record IsRunTo (bits : ℕ) (l : ListingView) (clock : ℕ) (now : ArrayView) : Type 0 where
  pub device : now.device ≡ device_after bits l clock
  pub once : IsRunOnce now

-- what an error leaves of the array, of its slots and its work too: a refusal of the text as it was; out of memory
-- as it was, or none open; and where only clock or room are refused, it was opened. No operations are asked for.
abbrev pub FaultLeaves : StateFault → (bits : ℕ) → ListingView → (before now : ArrayView) → Type 0
FaultLeaves (f.Scene fault) bits l before now = now ≡ before
FaultLeaves (f.Job fault) bits l before now = now ≡ before
FaultLeaves (f.Listing fault) bits l before now = now ≡ before
FaultLeaves (f.NoClock clocks) bits l before now = IsRunTo bits l 0 now
FaultLeaves (f.NoOperation operations) bits l before now = ⊥
FaultLeaves (f.NoRoom room) bits l before now = IsRunTo bits l 0 now
FaultLeaves (f.Memory _) bits l before now = (now ≡ before) ⊎ (now ≡ none_open)
