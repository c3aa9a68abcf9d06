-- Blocks of eight words that are read and written.
use Rattle.px_num.proofs.Basics.{◌≡◌, ℕ, ◌+◌, ◌-◌, ◌*◌, ◌<◌, ◌≤◌, Bool, List, get_or, ◌∙◌, arith, cases_lt}
use Rattle.px_num.specs.Bits.{nat_bit}
use Rattle.px_rows.specs.Rows.{row_bit}
use Rattle.px_rows.specs.Words.{IsWritten}

pub blocks_rest : (P : ℕ → ℕ → Type 0) (block : ℕ) (start old new : List ℕ) → IsWritten P (8 * block) old new
    → ((k : ℕ) → 8 * block ≤ k → get_or old k 0 ≡ get_or start k 0)
    → (k : ℕ) → 8 * (block + 1) ≤ k → get_or new k 0 ≡ get_or start k 0
blocks_rest P block start old new w rest k high = w.after k (omega arith) ∙ rest k (omega arith)

-- the same of bits
pub bits_more : (P : ℕ → ℕ → Type 0) (F : ℕ → Bool) (block : ℕ) (old new : List ℕ) → IsWritten P (8 * block) old new
    → ((p : ℕ) → p < 512 * block → row_bit old p ≡ F p)
    → ((k : ℕ) → 8 * block ≤ k → k < 8 * block + 8 → P k (get_or new k 0) → (j : ℕ) → j < 64
    → nat_bit (get_or new k 0) j ≡ F (64 * k + j))
    → (p : ℕ) → p < 512 * (block + 1) → row_bit new p ≡ F p
bits_more P F block old new w done now p low = grind (arith, cases_lt)
