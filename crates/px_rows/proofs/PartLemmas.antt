-- The bits of a part of a row, and of a row of which a part was written.
use Rattle.px_num.proofs.Basics.{◌≡◌, ℕ, ◌+◌, ◌*◌, ◌<◌, ◌≤◌, List, length, take, drop, arith, rules}
use Rattle.px_num.proofs.Basics.{places}
use borrow.Rule.Slice.PartMut.{put_mid}
use Rattle.px_rows.specs.Rows.{row_bit}

pub bit_in_put : (at k p : ℕ) (xs ys : List ℕ) → at + k ≤ length xs → length ys ≡ k → p < 64 * k
    → row_bit (put_mid at k xs ys) (64 * at + p) ≡ row_bit ys p
bit_in_put at k p xs ys within long small = grind (arith, rules, places)

pub bit_in_part : (at k p : ℕ) (xs : List ℕ) → at + k ≤ length xs → p < 64 * k
    → row_bit (take k (drop at xs)) p ≡ row_bit xs (64 * at + p)
bit_in_part at k p xs within small = grind (arith, rules, places)
