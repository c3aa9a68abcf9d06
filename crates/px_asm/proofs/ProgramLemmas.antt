-- The microprogram law, and for operations one after another.
use Rattle.px_num.proofs.Basics.{suc, ◌∙◌, All, [], ◌∷◌, refl, ap, arith}
use Rattle.px_asm.proofs.Words.{after_clocks, after_clocks-append, after_macros, all_micros, bits_of}
use Rattle.px_asm.proofs.Words.{grid_after_clocks, IsLawful, LeaveTheMeaning, LeaveTheMeanings, micros, pixel_of}
use Rattle.px_asm.proofs.Words.{State}
use Rattle.px_macro.proofs.NumberLaws.{bits_of_number, number_is_below}
use Rattle.px_tree.proofs.LeafLemmas.{leaf_gives_sign, leaf_gives_value}
use Rattle.px_asm.proofs.LawLemmas.{leave_the_meaning}

pub micros_leave_the_meaning : LeaveTheMeaning
micros_leave_the_meaning = leave_the_meaning bits_of_number number_is_below leaf_gives_value leaf_gives_sign

pub micros_leave_the_meanings : LeaveTheMeanings
micros_leave_the_meanings bits nx ny sizes [] lawful s grid x y column row = refl
micros_leave_the_meanings bits nx ny sizes (m ∷ ms) lawful s grid x y column row =
    let first = micros m nx ny in
    let between = after_clocks first s in
    let rest : All (λ m. IsLawful m bits) ms = λ k d low. lawful (suc k) d (omega arith) in
    ap (λ (r : State). bits_of (pixel_of r x y)) (after_clocks-append first (all_micros ms nx ny) s)
    ∙ (micros_leave_the_meanings bits nx ny sizes ms rest between (grid_after_clocks bits nx ny first s grid) x y
    column row
    ∙ ap (after_macros ms x y)
    (micros_leave_the_meaning bits nx ny sizes m (lawful 0 m (omega arith)) s grid x y column row))
