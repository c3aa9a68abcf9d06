use Rattle.px_num.proofs.Basics.{◌≡◌, ◌∙◌, suc, ◌+◌, ◌<◌, ◌%◌, not, ap, sym, refl, arith}
use Rattle.px_planes.proofs.Words.{bit_of, flipped, flipped_bit, nat_bit, number_in, pixel_in}
use Rattle.px_planes.proofs.word_operations.at_most.Goals as goal

pub loop-t-preserved : goal.loop-t-preserved
loop-t-preserved c p u within here h =
    let t = c.loop-t.t in
    let j = p % 64 in
    let small : p % 64 < 64 = omega arith in
    let f = c.args.field.now in
    let memory = (pixel_in c.args.planes.now p).memory in
    let turned : nat_bit c.turned.result j ≡ bit_of (flipped u) t =
    c.turned.ensures j small ∙ (ap not (h.each t (omega arith)) ∙ sym (flipped_bit u t)) in
    let bit : nat_bit c.memory_word-bit.result j ≡ nat_bit (number_in f memory) t = grind arith in
    let next : t + 1 ≡ suc t = omega arith in
    c.majority_word-most.ensures j small ∙ rw (next, turned, bit, c.loop-t.invariant p u within here h) refl
