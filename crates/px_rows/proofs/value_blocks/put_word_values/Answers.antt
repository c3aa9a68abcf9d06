use Rattle.px_num.proofs.Basics.{◌+◌, ◌^◌, ◌≤◌, arith, pow-le-pow_right}
use Rattle.px_rows.proofs.value_blocks.put_word_values.Goals as goal

pub word_values-requires-clause-word : goal.word_values-requires-clause-word
word_values-requires-clause-word c =
    let nine : 9 ≤ 9 + c.args.ny = omega arith in
    let most : 2 ^ 9 ≤ 2 ^ (9 + c.args.ny) = pow-le-pow_right {n = 2} (omega arith) nine in
    omega (arith, most)
