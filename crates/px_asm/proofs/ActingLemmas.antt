-- One pixel under a list of acts, each with the bit of the tree that it sees then.
use Rattle.px_num.proofs.Basics.{◌≡◌, ℕ, zero, suc, ◌+◌, ◌<◌, Bool, refl, ap, ◌∙◌, arith}
use Rattle.px_asm.proofs.Words.{Act, after_act, PixelState}
use Rattle.px_array.specs.declared.act.Act.TheVariants.{Nop}

-- a pixel after n acts
abbrev pub after_acts : (act : ℕ → Act) (tree : ℕ → Bool) → ℕ → PixelState → PixelState
after_acts act tree zero p = p
after_acts act tree (suc n) p = after_act (act n) (tree n) (after_acts act tree n p)

-- in two parts
pub after_acts-parts : (act : ℕ → Act) (tree : ℕ → Bool) (m n : ℕ) (p : PixelState)
    → after_acts act tree (m + n) p ≡ after_acts (λ i. act (m + i)) (λ i. tree (m + i)) n (after_acts act tree m p)
after_acts-parts act tree m zero p = let e : m + 0 ≡ m = omega arith in ap (λ i. after_acts act tree i p) e
after_acts-parts act tree m (suc n) p =
    let e : m + suc n ≡ suc (m + n) = omega arith in
    ap (λ i. after_acts act tree i p) e ∙ ap (after_act (act (m + n)) (tree (m + n))) (after_acts-parts act tree m n p)

-- the same acts and bits
pub after_acts-same : (act other : ℕ → Act) (tree seen : ℕ → Bool) (n : ℕ) (p : PixelState)
    → ((i : ℕ) → i < n → act i ≡ other i) → ((i : ℕ) → i < n → tree i ≡ seen i)
    → after_acts act tree n p ≡ after_acts other seen n p
after_acts-same act other tree seen zero p acts bits = refl
after_acts-same act other tree seen (suc n) p acts bits =
    rw (acts n (omega arith), bits n (omega arith))
    (ap (after_act (other n) (seen n)) (after_acts-same act other tree seen n p (λ i low. acts i (omega arith))
    (λ i low. bits i (omega arith))))

-- acts that do nothing
pub after_nops : (act : ℕ → Act) (tree : ℕ → Bool) (n : ℕ) (p : PixelState) → ((i : ℕ) → i < n → act i ≡ Nop)
    → after_acts act tree n p ≡ p
after_nops act tree zero p nops = refl
after_nops act tree (suc n) p nops = rw (nops n (omega arith)) (after_nops act tree n p (λ i low. nops i (omega arith)))
