use Rattle.px_num.proofs.Basics.{◌≡◌, ℕ, suc, ◌+◌, ◌-◌, ◌*◌, ◌/◌, ◌%◌, ◌<◌, ◌≤◌, cond, get_or, arith}
use Rattle.px_num.specs.Bits.{majority, nat_bit, xor}
use Rattle.px_rows.specs.Rows.{row_bit}
use Rattle.px_rows.specs.Sums.{value_on}
use Rattle.px_rows.proofs.BlockLemmas.{bits_more, blocks_rest}
use Rattle.px_rows.proofs.sums.add_blocks.Goals as goal

pub loop-block-preserved : goal.loop-block-preserved
loop-block-preserved c =
    let l = c.loop-block in
    let i = l.invariant in
    let block = l.block in
    let target = c.args.target.now in
    let first = c.args.first.now in
    let second = c.args.second.now in
    let mask = c.args.mask.now in
    let step = c.args.step in
    let value = value_on c.args.value.now step first in
    let w = c.add_value_block.ensures in
    let s = c.step_block-lanes.ensures in
    let next : block + 1 ≡ suc block = omega arith in
    let lane : (k j : ℕ) → 8 * block ≤ k → k < 8 * block + 8 → j < 64 → nat_bit (get_or l.lanes (k - 8 * block) 0) j
    ≡ value (64 * k + j) =
    λ k j low high small.
    let here : 64 * k + j - 512 * block < 512 = omega arith in
    let word : (64 * k + j - 512 * block) / 64 ≡ k - 8 * block = omega arith in
    let bit : (64 * k + j - 512 * block) % 64 ≡ j = omega arith in
    let in_block : (64 * k + j) / 512 ≡ block = omega arith in
    let place : (64 * k + j) % 512 ≡ 64 * k + j - 512 * block = omega arith in
    rw (in_block, place) (rw (word, bit) at (i.lanes (64 * k + j - 512 * block) here)) in
    record {
      target = bits_more _ (λ p. cond (row_bit mask p) (xor (value p) (xor (row_bit target p) (row_bit second p)))
          (row_bit target p))
          block l.target c.add_value_block.new.target w.added i.target
          (λ k low high h j small.
          let word : (64 * k + j) / 64 ≡ k = omega arith in
          let bit : (64 * k + j) % 64 ≡ j = omega arith in
          rw (← lane k j low high small, word, bit, ← i.rest k low, ← i.rest_second k low) (h.each j small));
      first = bits_more _ (λ p. majority (value p) step (row_bit first p)) block l.first c.step_block-lanes.new.carry
          s.carried i.first
          (λ k low high h j small.
          let word : (64 * k + j) / 64 ≡ k = omega arith in
          let bit : (64 * k + j) % 64 ≡ j = omega arith in
          rw (← lane k j low high small, word, bit, ← i.rest_first k low, ← c.all_of-word.ensures.each j small)
          (h.each j small));
      second = bits_more _ (λ p. majority (value p) (row_bit target p) (row_bit second p)) block l.second
          c.add_value_block.new.carry w.carried i.second
          (λ k low high h j small.
          let word : (64 * k + j) / 64 ≡ k = omega arith in
          let bit : (64 * k + j) % 64 ≡ j = omega arith in
          rw (← lane k j low high small, word, bit, ← i.rest k low, ← i.rest_second k low) (h.each j small));
      rest = blocks_rest _ block target l.target c.add_value_block.new.target w.added i.rest;
      rest_first = blocks_rest _ block first l.first c.step_block-lanes.new.carry s.carried i.rest_first;
      rest_second = blocks_rest _ block second l.second c.add_value_block.new.carry w.carried i.rest_second;
      lanes = λ j small.
          let in_block : j / 64 < 8 = omega arith in
          let in_word : j % 64 < 64 = omega arith in
          let word : (512 * block + j) / 64 ≡ 8 * block + j / 64 = omega arith in
          let bit : (512 * block + j) % 64 ≡ j % 64 = omega arith in
          let past : 8 * block ≤ 8 * block + j / 64 = omega arith in
          rw (
            next,
            ← i.lanes j small,
            word,
            bit,
            ← i.rest_first (8 * block + j / 64) past,
            ← c.all_of-word.ensures.each (j % 64) in_word,
          )
          ((s.stepped (j / 64) in_block).each (j % 64) in_word);
    }
