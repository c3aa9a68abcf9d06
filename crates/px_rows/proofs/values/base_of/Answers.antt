use Rattle.px_num.proofs.Basics.{◌≡◌, ◌+◌, ◌*◌, ◌/◌, ◌^◌, ◌<◌, ◌≤◌, ℕ, arith, ints, to_z-of_z, pow-add, pow-le-pow_right}
use Rattle.px_rows.proofs.OffsetLemmas.{height, value_in_word}
use Rattle.px_rows.proofs.values.base_of.Goals as goal

pub returns-clause-value : goal.returns-clause-value
returns-clause-value c j small = grind (arith, to_z-of_z, height, value_in_word)

column_of : (place m n : ℕ) → place < m * n → place / n < m
column_of place m n inside = grind arith

pub value-requires-clause-x : goal.value-requires-clause-x
value-requires-clause-x c = grind (arith, pow-add, column_of, height)

pub returns-clause-size : goal.returns-clause-size
returns-clause-size c =
    let split : 2 ^ (9 + c.args.ny) ≡ 512 * 2 ^ c.args.ny = pow-add 2 9 c.args.ny in
    let inside : 64 * c.args.w < 512 * 2 ^ c.args.ny = rw split at c.requires.word in
    let q = column_of (64 * c.args.w) 512 (2 ^ c.args.ny) inside in
    let most : 2 ^ c.args.ny ≤ 2 ^ 9 = pow-le-pow_right {n = 2} (omega arith) c.requires.rows in
    let h = height c.args.ny c.requires.rows in
    let size = c.value.ensures.size (rw h (omega (arith, q))) (rw h (omega arith)) in
    (omega (arith, ints, size.0, size.1), omega (arith, ints, size.0, size.1))
