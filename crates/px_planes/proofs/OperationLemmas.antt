-- Operations made at once in one word.
use Rattle.px_num.proofs.Basics.{◌≡◌, ℕ, zero, suc, ◌+◌, ◌*◌, ◌/◌, ◌^◌, ◌<◌, ◌≤◌, ◌%◌, ℤ, pos, Bool, true, false, not}
use Rattle.px_num.proofs.Basics.{cond, List, [], length, get_or, refl, sym, ap, ◌∙◌, arith, ◌&&◌, ◌+ℤ◌, ◌≤ℤ◌, ◌<ℤ◌}
use Rattle.px_num.proofs.Basics.{with_item, length-map, is_negative}
use Rattle.px_planes.proofs.Words.{after_macro, and_true, bit_at, bit_of_zero, bits_of, HasWords, IsDone, IsWordDone}
use Rattle.px_planes.proofs.Words.{IsWorked, KeepSign, kept, Linear, Macro, nat_bit, offset, pixel_in, PixelState}
use Rattle.px_planes.proofs.Words.{Planes, row_bit, StoreConst, stored, stored_bits, value_at, with_field}
use Rattle.px_asm.proofs.ActingLemmas.{after_acts}
use Rattle.px_asm.proofs.StoringLemmas.{put_by_stores}
use Rattle.px_macro.specs.declared.field.Field.{Field}
use Rattle.px_planes.proofs.StoredLemmas.{bit_of_rows, stored_row}
use Rattle.px_planes.proofs.WorkLemmas.{like_stored}

pub done_by_work : (op : Macro) (ny w n : ℕ) (f : ℕ → PixelState → PixelState) (old new : Planes)
    → IsWorked w n f old new
    → ((p : ℕ) → p < 64 * n → p / 64 ≡ w → bits_of (f p (pixel_in old p))
    ≡ after_macro op (p / 2 ^ ny) (p % 2 ^ ny) (bits_of (pixel_in old p)))
    → IsWordDone op ny w n old new
done_by_work op ny w n f old new work means = grind arith

pub bit_of_word : (planes : Planes) (at w p : ℕ) → at < length planes.memory.items → p / 64 ≡ w
    → nat_bit (get_or (get_or planes.memory.items at []) w 0) (p % 64) ≡ bit_at (pixel_in planes p).memory at
bit_of_word planes at w p place here = rw (← here) (sym (bit_of_rows planes.memory.items at p place))

stored_acts : (at : ℕ) (v : ℕ → Bool) (n : ℕ) (x : PixelState)
    → stored_bits at v n x ≡ after_acts (λ t. StoreConst (at + t) (v t)) (λ t. false) n x
stored_acts at v zero x = refl
stored_acts at v (suc n) x = ap (stored (at + n) (v n)) (stored_acts at v n x)

pub stored_law : (f : Field) (number : ℕ) (v : ℕ → Bool) (n : ℕ) (planes : Planes) (p : ℕ) → n ≡ f.len
    → f.at + f.len ≤ length planes.memory.items → ((t : ℕ) → t < f.len → v t ≡ nat_bit number t)
    → bits_of (stored_bits f.at v n (pixel_in planes p)) ≡ with_field f number (bits_of (pixel_in planes p))
stored_law f number v n planes p long room bits =
    let x = pixel_in planes p in
    let size : length x.memory ≡ length planes.memory.items =
    length-map planes.memory.items (λ (row : List ℕ). row_bit row p) in
    ap bits_of (ap (λ k. stored_bits f.at v k x) long ∙ stored_acts f.at v f.len x)
    ∙ put_by_stores f number v (λ t. StoreConst (f.at + t) (v t)) (λ t. false) x (omega (arith, size)) bits
    (λ t q low. refl)

pub place_in_word : (p w : ℕ) → p / 64 ≡ w → 64 * w + p % 64 ≡ p
place_in_word p w here = omega arith

-- a word that lies on one side of an edge whole
is_positive_value : (v o base low : ℤ) → v ≡ o +ℤ base → low ≤ℤ o → pos 0 ≤ℤ (base +ℤ low) → is_negative v ≡ false
is_positive_value v o base low is least test = grind arith

is_negative_value : (v o base high : ℤ) → v ≡ o +ℤ base → o ≤ℤ high → (base +ℤ high) <ℤ pos 0 → is_negative v ≡ true
is_negative_value v o base high is most test = grind arith

pub value_here : (form : Linear) (ny w p : ℕ) (base : ℤ)
    → ((j : ℕ) → j < 64 → value_at form ((64 * w + j) / 2 ^ ny) ((64 * w + j) % 2 ^ ny) ≡ offset form ny j +ℤ base)
    → p / 64 ≡ w → value_at form (p / 2 ^ ny) (p % 2 ^ ny) ≡ offset form ny (p % 64) +ℤ base
value_here form ny w p base values here = grind (arith, place_in_word)

pub kept_whole : (form : Linear) (ny w n : ℕ) (base low : ℤ) (planes : Planes) → HasWords n planes
    → ((j : ℕ) → j < 64 → value_at form ((64 * w + j) / 2 ^ ny) ((64 * w + j) % 2 ^ ny) ≡ offset form ny j +ℤ base)
    → ((j : ℕ) → j < 64 → low ≤ℤ offset form ny j) → pos 0 ≤ℤ (base +ℤ low)
    → IsWordDone (KeepSign form) ny w n planes planes
kept_whole form ny w n base low planes words values least test = record {
  each = λ p within here.
      let small : p % 64 < 64 = omega arith in
      let v = value_at form (p / 2 ^ ny) (p % 2 ^ ny) in
      let sign = is_positive_value v (offset form ny (p % 64)) base low (value_here form ny w p base values here)
      (least (p % 64) small) test in
      let b = bits_of (pixel_in planes p) in
      let same : b.enable ≡ (b.enable && not (is_negative v)) = rw sign (sym (and_true b.enable)) in
      ap (λ (e : Bool). record { memory = b.memory; enable = e }) same;
  others = λ p within other. refl;
  like = record { words = words; memory = refl; carry = refl; latch = refl; full = refl };
}

pub none_kept : (form : Linear) (ny w n : ℕ) (base high : ℤ) (old new : Planes)
    → IsWorked w n (λ p x. kept (nat_bit 0 (p % 64)) x) old new
    → ((j : ℕ) → j < 64 → value_at form ((64 * w + j) / 2 ^ ny) ((64 * w + j) % 2 ^ ny) ≡ offset form ny j +ℤ base)
    → ((j : ℕ) → j < 64 → offset form ny j ≤ℤ high) → (base +ℤ high) <ℤ pos 0
    → IsWordDone (KeepSign form) ny w n old new
none_kept form ny w n base high old new work values most test =
    done_by_work (KeepSign form) ny w n _ old new work
    (λ p within here.
    let small : p % 64 < 64 = omega arith in
    let v = value_at form (p / 2 ^ ny) (p % 2 ^ ny) in
    let sign = is_negative_value v (offset form ny (p % 64)) base high (value_here form ny w p base values here)
    (most (p % 64) small) test in
    ap (λ (b : Bool). bits_of (kept b (pixel_in old p))) (bit_of_zero (p % 64) ∙ ap not (sym sign)))

-- a row that is stored where the pixels are enabled
pub stored_in_rows : (op : Macro) (ny : ℕ) (old : Planes) (at : ℕ) (row : List ℕ) (v : ℕ → Bool)
    → HasWords (length old.enable) old
    → at < length old.memory.items → length row ≡ length old.enable
    → ((p : ℕ) → p < 64 * length row → row_bit row p ≡ cond (row_bit old.enable p) (v p)
    (row_bit (get_or old.memory.items at []) p))
    → ((p : ℕ) → bits_of (stored at (v p) (pixel_in old p)) ≡ after_macro op (p / 2 ^ ny) (p % 2 ^ ny)
    (bits_of (pixel_in old p)))
    → IsDone op ny (length old.enable) old (record old { memory = with_item old.memory at row })
stored_in_rows op ny old at row v words place long each means = grind (arith, stored_row, like_stored)
