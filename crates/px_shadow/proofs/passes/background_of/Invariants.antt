use Rattle.px_num.proofs.Basics.{◌≡◌, ◌∷◌, ◌+◌, false, map, range_with_len}
use Rattle.arrayvec.specs.ArrayVec.{array_vec_len}
use Rattle.px_shadow.proofs.Words.{number_part}
use Rattle.px_macro.specs.declared.operation.Macro.TheVariants as m
use Rattle.px_shadow.proofs.passes.background_of.Given as goal

-- the first of them are the tests of the bits so far
abbrev pub invariant-loop-t : goal.invariant-loop-t
invariant-loop-t l = record {
  first : l.operations.items
      ≡ m.All ∷ map (λ t. m.KeepBit ((number_part l.layout l.layout.key_b).at + t) false) (range_with_len 0 l.t);
  room : array_vec_len l.operations ≡ l.t + 1;
}
