-- What is done to the pixels of one word.
use Rattle.px_num.proofs.Basics.{◌≡◌, ◌≢◌, ℕ, zero, suc, ◌+◌, ◌*◌, ◌/◌, ◌<◌, ◌%◌, ◌≤◌, Bool, false, cond, List, []}
use Rattle.px_num.proofs.Basics.{length, length-set, get_or, get_or-set_other, get_or-set_same, set, refl, sym, ap}
use Rattle.px_num.proofs.Basics.{◌∙◌, arith, bit_and, with_item}
use Rattle.px_planes.proofs.Words.{and_at, bit_at, HasWords, IsLike, IsWorked, IsWorkedIn, kept, nat_bit, pixel_in}
use Rattle.px_planes.proofs.Words.{PixelState, Planes, row_bit, stored, stored_bits}
use Rattle.px_asm.proofs.WrittenLemmas.{other_bit}
use Rattle.px_planes.proofs.StoredLemmas.{stored_row, words_stored}

-- a row of which one word was set
pub bit_set : (row : List ℕ) (w word p : ℕ) → w < length row → p / 64 ≡ w → row_bit (set row w word) p
    ≡ nat_bit word (p % 64)
bit_set row w word p inside here = rw here (ap (λ (n : ℕ). nat_bit n (p % 64)) (get_or-set_same row w word 0 inside))

pub bit_beside : (row : List ℕ) (w word p : ℕ) → p / 64 ≢ w → row_bit (set row w word) p ≡ row_bit row p
bit_beside row w word p other = ap (λ (n : ℕ). nat_bit n (p % 64)) (get_or-set_other row w (p / 64) word 0 other)

like_self : (n : ℕ) (planes : Planes) → HasWords n planes → IsLike n planes planes
like_self n planes words = record { words = words; memory = refl; carry = refl; latch = refl; full = refl }

-- planes of which one row of memory is another
pub like_stored : (old : Planes) (at : ℕ) (row : List ℕ) → HasWords (length old.enable) old
    → at < length old.memory.items → length row ≡ length old.enable
    → IsLike (length old.enable) old (record old { memory = with_item old.memory at row })
like_stored old at row words place long = grind (arith, words_stored, length-set)

-- a row of which a part is stored where the pixels are enabled
pub put_row_law : (size w at : ℕ) (old : Planes) (row : List ℕ) (v : ℕ → Bool) → HasWords (length old.enable) old
    → at < length old.memory.items → length row ≡ length old.enable
    → ((p : ℕ) → p < 64 * length old.enable → p / size ≡ w
    → row_bit row p ≡ cond (row_bit old.enable p) (v p) (row_bit (get_or old.memory.items at []) p))
    → ((p : ℕ) → p < 64 * length old.enable → p / size ≢ w → row_bit row p ≡ row_bit (get_or old.memory.items at []) p)
    → IsWorkedIn size w (length old.enable) (λ p x. stored at (v p) x) old
    (record old { memory = with_item old.memory at row })
put_row_law size w at old row v words place long here beside =
    record {
      each = grind (arith, stored_row);
      others = λ p within other.
          ap (λ (memory : List Bool). record (pixel_in old p) { memory = memory })
          (stored_row old.memory.items at p row false false place (beside p within other));
      like = like_stored old at row words place long;
    }

pub put_law : (old : Planes) (at w value word : ℕ) → HasWords (length old.enable) old → at < length old.memory.items
    → w < length old.enable
    → ((j : ℕ) → j < 64 → nat_bit word j ≡ cond (nat_bit (get_or old.enable w 0) j) (nat_bit value j)
    (nat_bit (get_or (get_or old.memory.items at []) w 0) j))
    → IsWorked w (length old.enable) (λ p x. stored at (nat_bit value (p % 64)) x) old
    (record old { memory = with_item old.memory at (set (get_or old.memory.items at []) w word) })
put_law old at w value word words place inside bits =
    let row = get_or old.memory.items at [] in
    let in_row : w < length row = omega (arith, words.memory at place) in
    put_row_law 64 w at old (set row w word) (λ p. nat_bit value (p % 64)) words place
    (length-set row w word ∙ words.memory at place)
    (λ p within here.
    let j_small : p % 64 < 64 = omega arith in
    bit_set row w word p in_row here ∙ (bits (p % 64) j_small ∙ rw (← here) refl))
    (λ p within other. bit_beside row w word p other)

pub keep_law : (old : Planes) (w mask : ℕ) → HasWords (length old.enable) old → w < length old.enable
    → IsWorked w (length old.enable) (λ p x. kept (nat_bit mask (p % 64)) x) old
    (record old { enable = set old.enable w (bit_and (get_or old.enable w 0) mask) })
keep_law old w mask words inside = grind (arith, bit_and, bit_set, and_at, bit_beside, length-set)

pub like_then : (n : ℕ) (a b c : Planes) → IsLike n a b → IsLike n b c → IsLike n a c
like_then n a b c first second = grind arith

pub worked_then : (size w n : ℕ) (f g : ℕ → PixelState → PixelState) (a b c : Planes) → IsWorkedIn size w n f a b
    → IsWorkedIn size w n g b c → IsWorkedIn size w n (λ p x. g p (f p x)) a c
worked_then size w n f g a b c first second = grind (arith, like_then)

pub none_worked : (size w n : ℕ) (planes : Planes) → HasWords n planes → IsWorkedIn size w n (λ p x. x) planes planes
none_worked size w n planes words = grind (arith, like_self)

stored_beside : (at k : ℕ) (b : Bool) (x : PixelState) → at ≢ k → bit_at (stored at b x).memory k ≡ bit_at x.memory k
stored_beside at k b x other = other_bit x.enable b x.memory at k (λ e. other (sym e))

-- what is stored from a place on leaves the bits above it
pub bit_above : (at : ℕ) (v : ℕ → Bool) (n k : ℕ) (x : PixelState) → at + n ≤ k
    → bit_at (stored_bits at v n x).memory k ≡ bit_at x.memory k
bit_above at v zero k x above = refl
bit_above at v (suc n) k x above =
    let other : at + n ≢ k = omega arith in
    stored_beside (at + n) k (v n) (stored_bits at v n x) other ∙ bit_above at v n k x (omega arith)

-- one bit more is stored
pub stored_more : (size w n at t : ℕ) (v : ℕ → ℕ → Bool) (e : ℕ → Bool) (a b c : Planes)
    → IsWorkedIn size w n (λ p x. stored_bits at (v p) t x) a b
    → IsWorkedIn size w n (λ p x. stored (at + t) (e p) x) b c → ((p : ℕ) → p < 64 * n → p / size ≡ w → e p ≡ v p t)
    → IsWorkedIn size w n (λ p x. stored_bits at (v p) (suc t) x) a c
stored_more size w n at t v e a b c first second bit = grind (arith, worked_then)
