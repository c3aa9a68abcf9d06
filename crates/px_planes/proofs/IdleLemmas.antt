-- How many words a grid's rows have.
use Rattle.px_num.proofs.Basics.{ℕ, ◌+◌, ◌*◌, ◌^◌, ◌≤◌, arith, one-le-pow, pow-le-pow_right, cases_lt, pow-add}
use Rattle.px_rows.specs.Rows.{words_for}
use Rattle.px_planes.proofs.GridLemmas.{whole_words}

-- the words of a grid
pub words_below : (nx ny : ℕ) → nx ≤ 9 → 64 * words_for (2 ^ (nx + ny)) ≤ 2 ^ (9 + ny)
words_below nx ny low = grind (arith, cases_lt, whole_words, pow-le-pow_right, pow-add, one-le-pow)
