use Rattle.px_num.proofs.Basics.{arith, inl, inr, w64, cases_eq, bit_at-zero}
use Rattle.std.proofs.lemmas.Nat.Bits.{bit_at-trailing_zeros}
use Rattle.px_normal.proofs.set.clear_bits.Goals as goal

pub returns-clause-clear : goal.returns-clause-clear
returns-clause-clear c i low = elim (cases_eq c.args.word 0) [
  | inl none ↦ rw none (bit_at-zero i)
  | inr some ↦
      (bit_at-trailing_zeros w64 c.args.word (omega (arith, some)) c.ranges.word.fits).2 i (omega (arith, low))
]
