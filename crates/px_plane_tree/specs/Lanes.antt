-- Vectors, by their lanes. Only proofs and private functions stand on it.
use Rattle.std.specs.Prelude.{◌≡◌, ℕ, ◌+◌, ◌*◌, ◌/◌, ◌%◌, ◌^◌, ◌<◌, ◌≤◌, Bool, false, eqb, List, length, slice_index}
use Rattle.px_num.specs.Bits.{nat_bit}
use Rattle.px_tree.specs.Nodes.{next_node}

-- v has n lanes, each below top
pub record HasLanes (n top : ℕ) (v : List ℕ) : Type 0 where
  pub long : length v ≡ n
  pub small : (k : ℕ) → k < n → slice_index v k < top

-- sixteen bytes, each made of four bits of a byte, from bit `from` on, each bit twice
pub record IsTwice (from : ℕ) (bytes result : List ℕ) : Type 0 where
  pub lanes : HasLanes 16 256 result
  pub each : (k j : ℕ) → k < 16 → j < 8 → nat_bit (slice_index result k) j ≡ nat_bit (slice_index bytes k)
      (from + j / 2)

-- the bytes of two words
pub record HasBytes (words bytes : List ℕ) : Type 0 where
  pub lanes : HasLanes 16 256 bytes
  pub each : (k j : ℕ) → k < 16 → j < 8 → nat_bit (slice_index bytes k) j ≡ nat_bit (slice_index words (k / 8))
      (8 * (k % 8) + j)

-- the two words that hold the bits of one word, each bit twice
pub record IsDoubled (word : ℕ) (result : List ℕ) : Type 0 where
  pub lanes : HasLanes 2 (2 ^ 64) result
  pub each : (i j : ℕ) → i < 2 → j < 64 → nat_bit (slice_index result i) j ≡ nat_bit word (32 * i + j / 2)

-- the words of a row from `at` on
pub record IsPart (at : ℕ) (row part : List ℕ) : Type 0 where
  pub each : (i : ℕ) → i < 2 → slice_index part i ≡ slice_index row (at + i)

-- two words of a row became those of a vector
pub record IsStored (at : ℕ) (words old new : List ℕ) : Type 0 where
  pub inside : (i : ℕ) → i < 2 → slice_index new (at + i) ≡ slice_index words i
  pub below : (k : ℕ) → k < at → slice_index new k ≡ slice_index old k
  pub above : (k : ℕ) → at + 2 ≤ k → slice_index new k ≡ slice_index old k

-- the even bits are 0
pub record IsOdd (words : List ℕ) : Type 0 where
  pub each : (i j : ℕ) → i < 2 → j < 64 → j % 2 ≡ 0 → nat_bit (slice_index words i) j ≡ false

-- the new outputs and carries of nodes whose parents' outputs are `both`, where an odd node's line is that of its place
pub record IsNext (line : ℕ → ℕ → Bool) (both old outputs carries : List ℕ) : Type 0 where
  pub output : (i j : ℕ) → i < 2 → j < 64 → nat_bit (slice_index outputs i) j
      ≡ (next_node (eqb (j % 2) 1) (nat_bit (slice_index both i) j) (line i j) (nat_bit (slice_index old i) j)).output
  pub carry : (i j : ℕ) → i < 2 → j < 64 → nat_bit (slice_index carries i) j
      ≡ (next_node (eqb (j % 2) 1) (nat_bit (slice_index both i) j) (line i j) (nat_bit (slice_index old i) j)).carry
