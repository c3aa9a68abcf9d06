-- Operations that are made at once, word by word. Only proofs and private functions stand on it.
use Rattle.std.specs.Prelude.{◌≡◌, ◌≢◌, ℕ, zero, suc, ◌+◌, ◌*◌, ◌/◌, ◌%◌, ◌^◌, ◌<◌, ◌≤◌, ◌⊎◌, ⊤, ◌≤ℤ◌, Bool}
use Rattle.std.specs.Prelude.{false, not, ◌==◌, max, count_by, List, length}
use Rattle.px_num.specs.Forms.{IsInTreeRange, IsWithin}
use Rattle.px_rows.specs.Lanes.{HasValue, offset}
use Rattle.px_macro.specs.declared.operation.Macro.TheVariants as m
use Rattle.px_num.specs.Bits.{nat_bit}
use Rattle.px_num.specs.declared.linear.Linear.{Linear}
use Rattle.px_asm.specs.Microprograms.{bits_of}
use Rattle.px_macro.specs.Macros.{IsLawful, after_macro}
use Rattle.px_macro.specs.declared.operation.Macro.{Macro}
use Rattle.px_array.specs.Acts.{stored}
use Rattle.px_array.specs.Pixels.{PixelState}
use Rattle.px_planes.specs.Pixels.{HasWords, pixel_in}
use Rattle.px_planes.specs.declared.edges.Edge.{Edge}
use Rattle.px_planes.specs.declared.planes.Planes.{Planes}
use Rattle.px_planes.specs.declared.reach.Reach.{Reach}
use Rattle.px_planes.specs.declared.reach.TheConstants.{FEW}
use Rattle.px_planes.specs.declared.word_operations.Values.{Values}
use Rattle.px_rows.specs.Rows.{row_bit}

-- the first n bits of v are stored from a place on
abbrev pub stored_bits : (at : ℕ) (v : ℕ → Bool) (n : ℕ) → PixelState → PixelState
stored_bits at v zero x = x
stored_bits at v (suc n) x = stored (at + n) (v n) (stored_bits at v n x)

-- rows of n words, of which carry, latch and all sizes are as they were
pub record IsLike (n : ℕ) (old new : Planes) : Type 0 where
  pub words : HasWords n new
  pub memory : length new.memory.items ≡ length old.memory.items
  pub carry : new.carry ≡ old.carry
  pub latch : new.latch ≡ old.latch
  pub full : new.full ≡ old.full

-- of rows of n words, parted into so many pixels each, the pixels of part w became what f says, and all others
-- are as they were
pub record IsWorkedIn (size w n : ℕ) (f : ℕ → PixelState → PixelState) (old new : Planes) : Type 0 where
  pub each : (p : ℕ) → p < 64 * n → p / size ≡ w → pixel_in new p ≡ f p (pixel_in old p)
  pub others : (p : ℕ) → p < 64 * n → p / size ≢ w → pixel_in new p ≡ pixel_in old p
  pub like : IsLike n old new

-- the same of the pixels of word w
abbrev pub IsWorked : (w n : ℕ) → (ℕ → PixelState → PixelState) → (old new : Planes) → Type 0
IsWorked w n f old new = IsWorkedIn 64 w n f old new

-- the operation was made in the pixels of word w
pub record IsWordDone (op : Macro) (ny w n : ℕ) (old new : Planes) : Type 0 where
  pub each : (p : ℕ) → p < 64 * n → p / 64 ≡ w → bits_of (pixel_in new p) ≡ after_macro op (p / 2 ^ ny) (p % 2 ^ ny)
      (bits_of (pixel_in old p))
  pub others : (p : ℕ) → p < 64 * n → p / 64 ≢ w → pixel_in new p ≡ pixel_in old p
  pub like : IsLike n old new

-- the operation was made in the pixels of a strip of 512 words
pub record IsStripDone (op : Macro) (ny strip n : ℕ) (old new : Planes) : Type 0 where
  pub each : (p : ℕ) → p < 64 * n → p / 32768 ≡ strip → bits_of (pixel_in new p) ≡ after_macro op (p / 2 ^ ny)
      (p % 2 ^ ny) (bits_of (pixel_in old p))
  pub others : (p : ℕ) → p < 64 * n → p / 32768 ≢ strip → pixel_in new p ≡ pixel_in old p
  pub like : IsLike n old new

-- the operation was made everywhere
pub record IsDone (op : Macro) (ny n : ℕ) (old new : Planes) : Type 0 where
  pub each : (p : ℕ) → p < 64 * n → bits_of (pixel_in new p) ≡ after_macro op (p / 2 ^ ny) (p % 2 ^ ny)
      (bits_of (pixel_in old p))
  pub like : IsLike n old new

-- whether a pixel of a word is enabled
abbrev pub has_some : ℕ → Bool
has_some word = not (word == 0)

-- pixels are enabled in more than a third of all words, and in more than few
abbrev pub IsCrowd : Planes → Type 0
IsCrowd planes = max (length planes.enable / 3) FEW < count_by has_some planes.enable

-- an operation that changes only what is enabled
abbrev pub IsPartial : Macro → Type 0
IsPartial op = op ≢ m.All

-- an operation that changes only what is enabled can be made in planes of a grid
pub record CanOperate (op : Macro) (ny : ℕ) (planes : Planes) : Type 0 where
  pub words : HasWords (length planes.enable) planes
  pub rows : ny ≤ 9
  pub grid : 64 * length planes.enable ≤ 2 ^ (9 + ny)
  pub lawful : IsLawful op (length planes.memory.items)
  pub part : IsPartial op

-- what is added in each lane to the value at the first pixel of its word
abbrev pub AreOffsets : Linear → (ny : ℕ) → List ℕ → Type 0
AreOffsets form ny offsets = (j : ℕ) → j < 64 → HasValue offsets j (offset form ny j)

-- offsets of so many bits that are those of a form, in a grid of rows of n words
pub record AreValues (values : Values) (bits n : ℕ) : Type 0 where
  pub range : IsInTreeRange values.form.now
  pub rows : values.ny ≤ 9
  pub grid : 64 * n ≤ 2 ^ (9 + values.ny)
  pub long : length values.offsets.now ≡ bits
  pub offsets : AreOffsets values.form.now values.ny values.offsets.now

-- no offset is less than the low one or greater than the high one
pub record IsEdge (form : Linear) (ny : ℕ) (edge : Edge) : Type 0 where
  pub least : (j : ℕ) → j < 64 → edge.low ≤ℤ offset form ny j
  pub most : (j : ℕ) → j < 64 → offset form ny j ≤ℤ edge.high
  pub first : IsWithin (2 ^ 42) edge.low
  pub second : IsWithin (2 ^ 42) edge.high

-- the offsets are those of the operation's form, if it has one
abbrev pub HaveOffsets : Macro → (ny : ℕ) → List ℕ → Type 0
HaveOffsets (m.LoadLinear form f) ny offsets = AreOffsets form ny offsets
HaveOffsets (m.KeepAtMost form f) ny offsets = AreOffsets form ny offsets
HaveOffsets (m.AddLinear form f) ny offsets = AreOffsets form ny offsets
HaveOffsets op ny offsets = ⊤

-- every pixel is enabled
pub record IsEnabled (n : ℕ) (old new : Planes) : Type 0 where
  pub each : (p : ℕ) → p < 64 * n → bits_of (pixel_in new p)
      ≡ record { memory = (pixel_in old p).memory; enable = nat_bit old.full (p % 64) }
  pub like : IsLike n old new

-- an operation that is made word by word and is no edge
abbrev pub IsWordwise : Macro → Type 0
IsWordwise (m.LoadLinear form f) = ⊤
IsWordwise (m.KeepAtMost form f) = ⊤
IsWordwise (m.AddLinear form f) = ⊤
IsWordwise (m.LoadConst f c) = ⊤
IsWordwise (m.Copy f g) = ⊤
IsWordwise (m.KeepLess f g) = ⊤
IsWordwise op = ⊥

-- how many bits of its offsets such an operation needs
abbrev pub bits_needed : Macro → ℕ
bits_needed (m.LoadLinear form f) = f.len
bits_needed (m.KeepAtMost form f) = f.len
bits_needed (m.AddLinear form f) = f.len
bits_needed op = 0

-- no pixel is enabled outside the words of a reach
pub record IsReach (reach : Reach) (planes : Planes) : Type 0 where
  pub within : reach.to ≤ length planes.enable
  pub outside : (p : ℕ) → p < 64 * length planes.enable → (p / 64 < reach.from) ⊎ (reach.to ≤ p / 64)
      → row_bit planes.enable p ≡ false
