-- The microprogram law, operation by operation.
use Rattle.px_num.proofs.Basics.{◌≡◌, ℕ, suc, ◌+◌, ◌*◌, ◌^◌, ◌<◌, ◌==◌, Bool, length, refl, sym, ap, ◌∙◌, arith}
use Rattle.px_num.proofs.Basics.{is_negative}
use Rattle.px_asm.proofs.Words.{AddLinear, bit_of, bits_of, BitsOfNumber, Copy, Field, HasGrid, index_below, IsGrid}
use Rattle.px_asm.proofs.Words.{IsInTreeRange, KeepAtMost, KeepLess, KeepSign, leaf_output, LeafGivesSign}
use Rattle.px_asm.proofs.Words.{LeafGivesValue, LeaveTheMeaning, Linear, LoadConst, LoadLinear, micro_at, nat_bit}
use Rattle.px_asm.proofs.Words.{NumberIsBelow, pixel_of, State, tree_at, value_at}
use Rattle.px_asm.proofs.ActingLemmas.{after_acts-same}
use Rattle.px_asm.proofs.FormRunLemmas.{at_most_act, kept_by_sign, kept_if_at_most, not_last, put_by_add, put_by_load}
use Rattle.px_asm.proofs.ComparingLemmas.{kept_if_less}
use Rattle.px_asm.proofs.PlaceLemmas.{act_of_choice}
use Rattle.px_asm.proofs.StoringLemmas.{put_by_copy, put_by_stores}
use Rattle.px_asm.proofs.StepLemmas.{leaf_while_fed, pixel_after_run, steps}

memory_size : (bits nx ny : ℕ) (s : State) → HasGrid bits nx ny s → (x y : ℕ) → x < 2 ^ nx → y < 2 ^ ny
    → length (pixel_of s x y).memory ≡ bits
memory_size bits nx ny s grid x y column row = grind (arith, index_below)

-- bit 39 of a value is its sign
sign_of_leaf : LeafGivesValue → LeafGivesSign → (form : Linear) (nx ny x y : ℕ) → IsInTreeRange form → IsGrid nx ny
    → x < 2 ^ nx → y < 2 ^ ny → bit_of (value_at form x y) 39 ≡ is_negative (value_at form x y)
sign_of_leaf leaf sign form nx ny x y range sizes column row =
    sym (leaf form nx ny x y 39 sizes.0.0 sizes.1.0 column row) ∙ sign form nx ny x y range sizes column row

-- the tree is fed in each clock of a comparison but the last
fed_before_last : (form : Linear) (f : Field) (nx ny i : ℕ) → i < 1 + (nx + ny) + f.len
    → (micro_at (KeepAtMost form f) nx ny i).tree ≡ tree_at form nx ny i
fed_before_last form f nx ny i low = rw (not_last i (1 + (nx + ny) + f.len) low) refl

pub leave_the_meaning : BitsOfNumber → NumberIsBelow → LeafGivesValue → LeafGivesSign → LeaveTheMeaning
leave_the_meaning number below leaf sign bits nx ny sizes (KeepSign form) lawful s grid x y column row =
    let micro = micro_at (KeepSign form) nx ny in
    let last : 40 + (nx + ny) ≡ suc (39 + (nx + ny)) = omega arith in
    let tree : ℕ → Bool = λ i. leaf_output (steps micro i s).tree (x * 2 ^ ny + y) in
    let seen : tree (40 + (nx + ny)) ≡ is_negative (value_at form x y) =
    ap tree last
    ∙ (leaf_while_fed leaf bits nx ny sizes micro form 39 s grid (λ i low. refl) x y column row
    ∙ sign_of_leaf leaf sign form nx ny x y lawful sizes column row) in
    ap bits_of (pixel_after_run bits nx ny micro (41 + (nx + ny)) s grid x y column row)
    ∙ kept_by_sign (40 + (nx + ny)) (41 + (nx + ny)) tree (value_at form x y) (pixel_of s x y) (omega arith) seen
leave_the_meaning number below leaf sign bits nx ny sizes (LoadLinear form f) lawful s grid x y column row =
    let micro = micro_at (LoadLinear form f) nx ny in
    let count = 1 + (nx + ny) + f.len in
    let tree : ℕ → Bool = λ i. leaf_output (steps micro i s).tree (x * 2 ^ ny + y) in
    let size = memory_size bits nx ny s grid x y column row in
    ap bits_of (pixel_after_run bits nx ny micro count s grid x y column row)
    ∙ put_by_load (nx + ny) count f tree (value_at form x y) (pixel_of s x y) refl
    (omega (arith, size, lawful.1.within)) (λ t low.
    leaf_while_fed leaf bits nx ny sizes micro form t s grid (λ i h. refl) x y column row)
leave_the_meaning number below leaf sign bits nx ny sizes (KeepAtMost form f) lawful s grid x y column row =
    let micro = micro_at (KeepAtMost form f) nx ny in
    let last = 1 + (nx + ny) + f.len in
    let count = 2 + (nx + ny) + f.len in
    let total : count ≡ suc last = omega arith in
    let tree : ℕ → Bool = λ i. leaf_output (steps micro i s).tree (x * 2 ^ ny + y) in
    ap bits_of (pixel_after_run bits nx ny micro count s grid x y column row)
    ∙ (ap bits_of (after_acts-same (λ i. (micro i).act) (at_most_act (nx + ny) f) tree tree count (pixel_of s x y)
    (λ i low. act_of_choice (i == last) _ _) (λ i low. refl))
    ∙ kept_if_at_most number below (nx + ny) count f tree (value_at form x y) (pixel_of s x y) total (λ t low.
    leaf_while_fed leaf bits nx ny sizes micro form t s grid (λ i h. fed_before_last form f nx ny i (omega arith)) x
    y column row))
leave_the_meaning number below leaf sign bits nx ny sizes (AddLinear form f) lawful s grid x y column row =
    let micro = micro_at (AddLinear form f) nx ny in
    let count = 1 + (nx + ny) + f.len in
    let tree : ℕ → Bool = λ i. leaf_output (steps micro i s).tree (x * 2 ^ ny + y) in
    let size = memory_size bits nx ny s grid x y column row in
    ap bits_of (pixel_after_run bits nx ny micro count s grid x y column row)
    ∙ put_by_add number (nx + ny) count f tree (value_at form x y) (pixel_of s x y) refl
    (omega (arith, size, lawful.1.within)) (λ t low.
    leaf_while_fed leaf bits nx ny sizes micro form t s grid (λ i h. refl) x y column row)
leave_the_meaning number below leaf sign bits nx ny sizes (LoadConst f c) lawful s grid x y column row =
    let micro = micro_at (LoadConst f c) nx ny in
    let size = memory_size bits nx ny s grid x y column row in
    ap bits_of (pixel_after_run bits nx ny micro f.len s grid x y column row)
    ∙ put_by_stores f c (nat_bit c) (λ i. (micro i).act) (λ i. leaf_output (steps micro i s).tree (x * 2 ^ ny + y))
    (pixel_of s x y)
    (omega (arith, size, lawful.0.within)) (λ t low. refl) (λ t p low. refl)
leave_the_meaning number below leaf sign bits nx ny sizes (Copy f g) lawful s grid x y column row =
    let micro = micro_at (Copy f g) nx ny in
    let size = memory_size bits nx ny s grid x y column row in
    ap bits_of (pixel_after_run bits nx ny micro (2 * f.len) s grid x y column row)
    ∙ put_by_copy number f g (λ i. leaf_output (steps micro i s).tree (x * 2 ^ ny + y)) (pixel_of s x y)
    lawful.0.length (omega (arith, size, lawful.0.fields.1.within)) lawful.1
leave_the_meaning number below leaf sign bits nx ny sizes (KeepLess f g) lawful s grid x y column row =
    let micro = micro_at (KeepLess f g) nx ny in
    ap bits_of (pixel_after_run bits nx ny micro (2 + 2 * f.len) s grid x y column row)
    ∙ kept_if_less number below f g (λ i. leaf_output (steps micro i s).tree (x * 2 ^ ny + y)) (pixel_of s x y)
    lawful.length
leave_the_meaning number below leaf sign bits nx ny sizes op lawful s grid x y column row =
    ap bits_of (pixel_after_run bits nx ny (micro_at op nx ny) 1 s grid x y column row)
