-- The words of definitions, and the laws of crates below, that proofs here cite.
pub use Rattle.px_rows.specs.Lanes.{HasValue, offset}
pub use Rattle.px_num.specs.Bits.{bit_of, carry_from, majority, modulo, nat_bit, xor}
pub use Rattle.px_num.specs.Forms.{IsWithin, value_at}
pub use Rattle.px_num.specs.declared.linear.Linear.{Linear}
pub use Rattle.px_rows.proofs.BitLaws.{and_at, xor_at, bit_of_zero}
pub use Rattle.px_rows.proofs.WordLemmas.{all_ones}
pub use mir.Val.{SFits}
