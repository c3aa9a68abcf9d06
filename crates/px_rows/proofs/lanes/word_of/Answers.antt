use Rattle.px_num.proofs.Basics.{◌≡◌, ℤ, pos, negsuc, arith, w64, of_z, to_z-of_z}
use Rattle.px_rows.proofs.LaneWords.{modulo, SFits}
use Rattle.px_num.proofs.BitLaws.{modulo_bit}
use Rattle.px_rows.proofs.lanes.word_of.Goals as goal

same_word : (k : ℤ) → SFits w64 k → of_z w64 k ≡ modulo k 64
same_word (pos n) fits = omega arith
same_word (negsuc n) fits = omega arith

pub returns : goal.returns
returns c t low = grind (arith, of_z, to_z-of_z, same_word, modulo_bit)
