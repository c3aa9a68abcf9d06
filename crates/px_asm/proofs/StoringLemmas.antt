-- What remains of one pixel by acts that store a field, bit by bit.
use Rattle.px_num.proofs.Basics.{rules, ◌≡◌, ℕ, zero, suc, ◌+◌, ◌*◌, ◌<◌, ◌≤◌, Bool, List, length, if◌then◌else◌, ◌⊎◌}
use Rattle.px_num.proofs.Basics.{inl, inr, refl, sym, ap, subst, ◌∙◌, arith, nat_tests}
use Rattle.px_asm.proofs.Words.{Act, after_act, AreApart, bit_at, bits_of, BitsOfNumber, copy_act, Field, nat_bit}
use Rattle.px_asm.proofs.Words.{number_in, PixelState, stored, with_field, with_number}
use Rattle.px_asm.proofs.ActingLemmas.{after_acts}
use Rattle.px_asm.proofs.WrittenLemmas.{IsWritten, none_written, one_written, whole_written}
use Rattle.px_array.specs.declared.act.Act.TheVariants as act

-- each act of a run stores a bit of v
abbrev pub StoreEach : (at n : ℕ) (v : ℕ → Bool) (act : ℕ → Act) (tree : ℕ → Bool) → Type 0
StoreEach at n v act tree = (t : ℕ) (p : PixelState) → t < n → after_act (act t) (tree t) p ≡ stored (at + t) (v t) p

pub enable_after_stores : (at n : ℕ) (v : ℕ → Bool) (act : ℕ → Act) (tree : ℕ → Bool) (p : PixelState)
    → StoreEach at n v act tree → (after_acts act tree n p).enable ≡ p.enable
enable_after_stores at zero v act tree p each = refl
enable_after_stores at (suc n) v act tree p each =
    ap (λ (q : PixelState). q.enable) (each n (after_acts act tree n p) (omega arith))
    ∙ enable_after_stores at n v act tree p (λ t q low. each t q (omega arith))

pub written_by_stores : (at n : ℕ) (v : ℕ → Bool) (act : ℕ → Act) (tree : ℕ → Bool) (p : PixelState)
    → at + n ≤ length p.memory → StoreEach at n v act tree
    → IsWritten at n v p.enable p.memory (after_acts act tree n p).memory
written_by_stores at zero v act tree p room each = none_written at v p.enable p.memory
written_by_stores at (suc n) v act tree p room each =
    let fewer : StoreEach at n v act tree = λ t q low. each t q (omega arith) in
    let q = after_acts act tree n p in
    let before = written_by_stores at n v act tree p (omega arith) fewer in
    rw (each n q (omega arith), enable_after_stores at n v act tree p fewer)
    (one_written at n v p.enable p.memory q.memory (omega arith) before)

pub same_bits : (p q : PixelState) (memory : List Bool) → q.enable ≡ p.enable → q.memory ≡ memory
    → bits_of q ≡ record { memory = memory; enable = p.enable }
same_bits p q memory e m = rw (e, m) refl

-- a field that was stored whole
pub put_by_stores : (f : Field) (n : ℕ) (v : ℕ → Bool) (act : ℕ → Act) (tree : ℕ → Bool) (p : PixelState)
    → f.at + f.len ≤ length p.memory → ((t : ℕ) → t < f.len → v t ≡ nat_bit n t) → StoreEach f.at f.len v act tree
    → bits_of (after_acts act tree f.len p) ≡ with_field f n (bits_of p)
put_by_stores f n v act tree p room bits each =
    let q = after_acts act tree f.len p in
    same_bits p q (if p.enable then with_number f n p.memory else p.memory)
    (enable_after_stores f.at f.len v act tree p each)
    (whole_written f n v p.enable p.memory q.memory bits (written_by_stores f.at f.len v act tree p room each))

-- acts that come in pairs

pub two_more : (n : ℕ) → 2 * suc n ≡ suc (suc (2 * n))
two_more n = omega arith

fetch_place : (f g : Field) (n : ℕ) → copy_act f g (2 * n) ≡ act.Fetch (f.at + n)
fetch_place f g n = grind (arith, nat_tests)

store_place : (f g : Field) (n : ℕ) → copy_act f g (suc (2 * n)) ≡ act.StoreLatch (g.at + n)
store_place f g n = grind (arith, nat_tests)

-- a pair of a copy: what was fetched is stored
pub after_pair : (f g : Field) (tree : ℕ → Bool) (n : ℕ) (p : PixelState) →
    let q = after_acts (copy_act f g) tree (2 * n) p in
    after_acts (copy_act f g) tree (2 * suc n) p ≡ stored (g.at + n) (bit_at q.memory (f.at + n))
    (record q { latch = bit_at q.memory (f.at + n) })
after_pair f g tree n p = search (rules, after_acts, two_more, store_place, fetch_place)

pub enable_after_copy : (f g : Field) (tree : ℕ → Bool) (n : ℕ) (p : PixelState)
    → (after_acts (copy_act f g) tree (2 * n) p).enable ≡ p.enable
enable_after_copy f g tree zero p = refl
enable_after_copy f g tree (suc n) p = grind (arith, after_pair, enable_after_copy f g tree n p)

unread : (f g : Field) (n : ℕ) → n < f.len → n < g.len → AreApart f g → (f.at + n < g.at) ⊎ (g.at + n ≤ f.at + n)
unread f g n low below (inl before) = inl (omega arith)
unread f g n low below (inr after) = inr (omega arith)

pub written_by_copy : (f g : Field) (tree : ℕ → Bool) (n : ℕ) (p : PixelState) → n ≤ f.len → n ≤ g.len
    → g.at + g.len ≤ length p.memory → AreApart f g
    → IsWritten g.at n (λ t. bit_at p.memory (f.at + t)) p.enable p.memory
    (after_acts (copy_act f g) tree (2 * n) p).memory
written_by_copy f g tree zero p low below room apart = grind (arith, none_written)
written_by_copy f g tree (suc n) p low below room apart =
    let q = after_acts (copy_act f g) tree (2 * n) p in
    let before = written_by_copy f g tree n p (omega arith) (omega arith) room apart in
    let fetched = before.others (f.at + n) (unread f g n (omega arith) (omega arith) apart) in
    rw (after_pair f g tree n p, enable_after_copy f g tree n p, fetched)
    (one_written g.at n (λ t. bit_at p.memory (f.at + t)) p.enable p.memory q.memory (omega arith) before)

pub put_by_copy : BitsOfNumber → (f g : Field) (tree : ℕ → Bool) (p : PixelState) → f.len ≡ g.len → g.at + g.len
    ≤ length p.memory → AreApart f g
    → bits_of (after_acts (copy_act f g) tree (2 * f.len) p) ≡ with_field g (number_in f p.memory) (bits_of p)
put_by_copy bits f g tree p same room apart =
    let q = after_acts (copy_act f g) tree (2 * f.len) p in
    let v : ℕ → Bool = λ t. bit_at p.memory (f.at + t) in
    let whole = subst (λ n. IsWritten g.at n v p.enable p.memory q.memory) same
    (written_by_copy f g tree f.len p (omega arith) (omega arith) room apart) in
    same_bits p q (if p.enable then with_number g (number_in f p.memory) p.memory else p.memory)
    (enable_after_copy f g tree f.len p)
    (whole_written g (number_in f p.memory) v p.enable p.memory q.memory
    (λ t low. sym (bits f p.memory t (omega arith))) whole)
