use Rattle.px_num.proofs.Basics.{◌≡◌, ℕ, ℤ, pos, ◌+ℤ◌, ◌<◌, ◌≤◌, false, if◌then◌else◌, get_or, length}
use Rattle.px_rows.proofs.LaneWords.{bit_of, carry_from, HasValue, nat_bit}
use Rattle.px_rows.proofs.lanes.add_constant.Given as goal

abbrev pub invariant-loop-t : goal.invariant-loop-t
invariant-loop-t l = record {
  done : (s j : ℕ) (u : ℤ) → s < l.t → j < 64 → HasValue l.fn.words j u
      → nat_bit (get_or l.words s 0) j ≡ bit_of (u +ℤ (if nat_bit l.mask j then l.k else pos 0)) s;
  rest : (s : ℕ) → l.t ≤ s → get_or l.words s 0 ≡ get_or l.fn.words s 0;
  carried : (j : ℕ) (u : ℤ) → j < 64 → HasValue l.fn.words j u
      → nat_bit l.carry j ≡ carry_from false u (if nat_bit l.mask j then l.k else pos 0) l.t;
  whole : length l.words ≡ length l.fn.words;
}
