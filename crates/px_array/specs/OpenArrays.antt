-- What the slots of an open array keep, and for what they have room. Only proofs and private functions stand on it.
use Rattle.std.specs.Prelude.{◌≡◌, ℕ, All, List, Option, None, length, map, replicate}
use Rattle.px_array.specs.Arrays.{Device}
use Rattle.px_array.specs.Slots.{HasRoom, SlotView}

-- each of some slots has room for a device
abbrev pub HaveRoom : {Slot : Type 0} (held : Slot → SlotView) → Device → List Slot → Type 0
HaveRoom held d slots = All (λ s. HasRoom d (held s)) slots

-- what each of them keeps, if anything
abbrev pub kept_by_slots : {Slot : Type 0} (held : Slot → SlotView) → List Slot → List (Option Device)
kept_by_slots held slots = map (λ s. (held s).kept) slots

-- there are n slots with room for grids of this size, and none of them keeps anything
pub record AreEmpty {Slot : Type 0} (held : Slot → SlotView) (n nx ny : ℕ) (slots : List Slot) : Type 0 where
  pub long : length slots ≡ n
  pub none : kept_by_slots held slots ≡ replicate n None
  pub rooms : All (λ s. ((held s).nx ≡ nx) × ((held s).ny ≡ ny)) slots
