-- What an operation that is made at once leaves of an array, and when two arrays that differ only in what it leaves
-- open become the same again. Clauses of public calls stand on it.
use Rattle.std.specs.Prelude.{◌≡◌, ℕ, ◌+◌, ◌^◌, ◌<◌, ◌&&◌, not, Bool, true, false, All, List, [], ◌∷◌}
use Rattle.px_array.specs.Arrays.{Device, HasGrid, State, pixel_at, pixel_of}
use Rattle.px_array.specs.Clocks.{after_clocks}
use Rattle.px_asm.specs.Making.{cycles_on}
use Rattle.px_asm.specs.Micros.{all_micros, micros}
use Rattle.px_asm.specs.Microprograms.{bits_of}
use Rattle.px_macro.specs.Macros.{IsLawful, after_macro}
use Rattle.px_tree.specs.Nodes.{IsGrid}
use Rattle.px_macro.specs.declared.operation.Macro.{Macro}
use Rattle.px_macro.specs.declared.operation.Macro.TheVariants as m

-- what else of two states is known to be the same
pub record Known : Type 0 where
  pub tree : Bool
  pub carry : Bool
  pub latch : Bool

abbrev pub none_known : Known
none_known = record { tree = false; carry = false; latch = false }

abbrev pub all_known : Known
all_known = record { tree = true; carry = true; latch = true }

-- what an operation resets: the tree by a clear, the carry where it is set, and the latch where it is fetched
abbrev pub renewed : Macro → Known → Known
renewed (m.KeepSign form) k = record { tree = true; carry = k.carry; latch = k.latch }
renewed (m.LoadLinear form f) k = record { tree = true; carry = k.carry; latch = k.latch }
renewed (m.KeepAtMost form f) k = record { tree = true; carry = true; latch = k.latch }
renewed (m.AddLinear form f) k = record { tree = true; carry = true; latch = k.latch }
renewed (m.Copy f g) k = record { tree = k.tree; carry = k.carry; latch = true }
renewed (m.KeepLess f g) k = record { tree = k.tree; carry = true; latch = true }
renewed op k = k

-- what the operation does not reset is as it was
pub record LeavesTheRest (op : Macro) (nx ny : ℕ) (before now : State) : Type 0 where
  pub tree : (renewed op none_known).tree ≡ false → now.tree ≡ before.tree
  pub carry : (renewed op none_known).carry ≡ false → (place : ℕ) → place < 2 ^ (nx + ny) → (pixel_at now place).carry
      ≡ (pixel_at before place).carry
  pub latch : (renewed op none_known).latch ≡ false → (place : ℕ) → place < 2 ^ (nx + ny) → (pixel_at now place).latch
      ≡ (pixel_at before place).latch

-- every pixel has what the operation means there, in memory and enable, and its clocks are counted; what the operation
-- resets of carries, latches and the tree may be anything, and the rest of them is as it was
pub record IsOperated (bits : ℕ) (op : Macro) (before now : Device) : Type 0 where
  pub grid : HasGrid bits before.state.tree.nx before.state.tree.ny now.state
  pub meaning : (x y : ℕ) → x < 2 ^ before.state.tree.nx → y < 2 ^ before.state.tree.ny
      → bits_of (pixel_of now.state x y) ≡ after_macro op x y (bits_of (pixel_of before.state x y))
  pub kept : LeavesTheRest op before.state.tree.nx before.state.tree.ny before.state now.state
  pub clocks : now.clocks ≡ before.clocks + cycles_on before op

-- two states of one grid have the same in memory and enable of every pixel
pub record Agree (bits nx ny : ℕ) (s t : State) : Type 0 where
  pub first : HasGrid bits nx ny s
  pub second : HasGrid bits nx ny t
  pub pixels : (x y : ℕ) → x < 2 ^ nx → y < 2 ^ ny → bits_of (pixel_of s x y) ≡ bits_of (pixel_of t x y)

abbrev pub all_renewed : List Macro → Known → Known
all_renewed [] k = k
all_renewed (op ∷ ops) k = all_renewed ops (renewed op k)

-- the micros of operations that reset all of it leave the same state
abbrev pub BecomeTheSame : Type 0
BecomeTheSame = (bits nx ny : ℕ) (ops : List Macro) → All (λ op. IsLawful op bits) ops → (s t : State)
    → Agree bits nx ny s t →
    all_renewed ops none_known ≡ all_known → after_clocks (all_micros ops nx ny) s
    ≡ after_clocks (all_micros ops nx ny) t

-- an operation that is made at once on one of two states that agree, and by its micros on the other, leaves
-- them in agreement
abbrev pub StayInAgreement : Type 0
StayInAgreement = (bits nx ny : ℕ) → IsGrid nx ny → (op : Macro) → IsLawful op bits
    → (before now : Device) (s : State) →
    Agree bits nx ny before.state s → IsOperated bits op before now
    → Agree bits nx ny now.state (after_clocks (micros op nx ny) s)

-- they agree, and what is known to be the same of everything else is so
pub record AgreeIn (k : Known) (bits nx ny : ℕ) (s t : State) : Type 0 where
  pub agree : Agree bits nx ny s t
  pub tree : k.tree ≡ true → s.tree ≡ t.tree
  pub carry : k.carry ≡ true → (place : ℕ) → place < 2 ^ (nx + ny) → (pixel_at s place).carry ≡ (pixel_at t place).carry
  pub latch : k.latch ≡ true → (place : ℕ) → place < 2 ^ (nx + ny) → (pixel_at s place).latch ≡ (pixel_at t place).latch

-- what is still known where an operation is made at once
abbrev pub untouched : Macro → Known → Known
untouched op k =
    let new = renewed op none_known in
    record { tree = k.tree && not new.tree; carry = k.carry && not new.carry; latch = k.latch && not new.latch }

-- an operation that is made at once on one of two states, and by its micros on the other, leaves the same what was
-- the same, but for what it resets
abbrev pub StayKnown : Type 0
StayKnown = (bits nx ny : ℕ) → IsGrid nx ny → (op : Macro) → IsLawful op bits
    → (k : Known) (before now : Device) (s : State) →
    AgreeIn k bits nx ny before.state s → IsOperated bits op before now →
    AgreeIn (untouched op k) bits nx ny now.state (after_clocks (micros op nx ny) s)

-- the micros of operations that reset all that is not known leave the same state
abbrev pub BecomeTheSameAgain : Type 0
BecomeTheSameAgain = (bits nx ny : ℕ) (ops : List Macro) → All (λ op. IsLawful op bits) ops
    → (k : Known) (s t : State) →
    AgreeIn k bits nx ny s t → all_renewed ops k ≡ all_known →
    after_clocks (all_micros ops nx ny) s ≡ after_clocks (all_micros ops nx ny) t
