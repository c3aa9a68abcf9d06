-- What each act does to a pixel. Clauses of public calls stand on it.
use Rattle.std.specs.Prelude.{ℕ, ◌<◌, ⊤, Bool, true, not, ◌&&◌, slice_set, if◌then◌else◌}
use Rattle.std.specs.Bool.{beq}
use Rattle.px_num.specs.Bits.{bit_at, majority, xor}
use Rattle.px_array.specs.Pixels.{PixelState}
use Rattle.px_array.specs.declared.act.Act.{Act}
use Rattle.px_array.specs.declared.act.Act.TheVariants.{Nop, EnableAll, EnableCarry, EnableTree, EnableBit}
use Rattle.px_array.specs.declared.act.Act.TheVariants.{SetCarry, Fetch, StoreTree, StoreLatch, StoreConst}
use Rattle.px_array.specs.declared.act.Act.TheVariants.{Toggle, CarryTree, CarryLatch, AddTree}

-- where the pixel is enabled, the bit at a place becomes v
abbrev pub stored : ℕ → Bool → PixelState → PixelState
stored at v p = record p { memory = if p.enable then slice_set p.memory at v else p.memory }

-- where a test fails, the pixel is enabled no longer
abbrev pub kept : Bool → PixelState → PixelState
kept test p = record p { enable = p.enable && test }

-- what an act leaves of a pixel at which the tree has the bit t
abbrev pub after_act : Act → Bool → PixelState → PixelState
after_act Nop t p = p
after_act EnableAll t p = record p { enable = true }
after_act (EnableCarry v) t p = kept (beq p.carry v) p
after_act (EnableTree v) t p = kept (beq t v) p
after_act (EnableBit at v) t p = kept (beq (bit_at p.memory at) v) p
after_act (SetCarry v) t p = record p { carry = v }
after_act (Fetch at) t p = record p { latch = bit_at p.memory at }
after_act (StoreTree at) t p = stored at t p
after_act (StoreLatch at) t p = stored at p.latch p
after_act (StoreConst at v) t p = stored at v p
after_act (Toggle at) t p = stored at (not (bit_at p.memory at)) p
after_act (CarryTree at) t p = record p { carry = majority (not t) (bit_at p.memory at) p.carry }
after_act (CarryLatch at) t p = record p { carry = majority (not p.latch) (bit_at p.memory at) p.carry }
after_act (AddTree at) t p =
    let added = stored at (xor t (xor (bit_at p.memory at) p.carry)) p in
    record added { carry = majority t (bit_at p.memory at) p.carry }

-- the pixel with its enable register set
abbrev pub enabled : PixelState → PixelState
enabled p = record p { enable = true }

-- the place that an act names, if any, is below the number of memory bits
abbrev pub HasPlace : ℕ → Act → Type 0
HasPlace bits (EnableBit at v) = at < bits
HasPlace bits (Fetch at) = at < bits
HasPlace bits (StoreTree at) = at < bits
HasPlace bits (StoreLatch at) = at < bits
HasPlace bits (StoreConst at v) = at < bits
HasPlace bits (Toggle at) = at < bits
HasPlace bits (CarryTree at) = at < bits
HasPlace bits (CarryLatch at) = at < bits
HasPlace bits (AddTree at) = at < bits
HasPlace bits other = ⊤
