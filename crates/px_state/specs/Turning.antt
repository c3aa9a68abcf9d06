-- Blocks of 64 words that are turned over. Only proofs and private functions stand on it.
use Rattle.std.specs.Prelude.{ℕ, ◌+◌, ◌*◌, ◌/◌, ◌%◌}

-- the place of the bit that a shuffle brings to a place of a block
abbrev pub shuffled : (p : ℕ) → ℕ
shuffled p = p / 2 + 2048 * (p % 2)
