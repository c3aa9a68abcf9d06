use Rattle.px_num.proofs.Basics.{◌≡◌, ℕ, ◌<◌, ◌≤◌, get_or}
use Prim.{tt}
use Rattle.px_rows.proofs.rows.each_word.Given as goal

abbrev pub invariant-loop-w : goal.invariant-loop-w
invariant-loop-w g l = record {
  done : (k : ℕ) → k < l.w → g.F.Fn.post l.f (k, (get_or l.fn.row k 0, tt)) (get_or l.row k 0);
  rest : (k : ℕ) → l.w ≤ k → get_or l.row k 0 ≡ get_or l.fn.row k 0;
}
