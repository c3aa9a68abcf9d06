use Rattle.px_num.proofs.Basics.{◌%◌, length, get_or}
use Rattle.px_planes.proofs.Words.{IsWorked, nat_bit, stored_bits}
use Rattle.px_planes.proofs.word_acts.store_words.Given as goal

abbrev pub invariant-loop-t : goal.invariant-loop-t
invariant-loop-t l = IsWorked l.w (length l.fn.planes.enable) (λ p x. stored_bits l.at
    (λ t. nat_bit (get_or l.values t 0) (p % 64)) l.t x) l.fn.planes l.planes
