use Rattle.px_num.proofs.Basics.{nat_tests, common_steps, ◌==◌, ap, arith, sym, ◌∙◌, cases_lt, le-ltb, lt-ltb}
use Rattle.px_num.proofs.Basics.{pow_below, bit_at_ones}
use Rattle.std.proofs.lemmas.Nat.Bits.{bit_at_ones_above}
use Rattle.px_rows.proofs.lanes.full_word.Goals as goal

pub returns-then-pixels-lt64 : goal.returns-then-pixels-lt64
returns-then-pixels-lt64 c i in_word =
    grind (arith, nat_tests, common_steps, pow_below, cases_lt, bit_at_ones, lt-ltb, bit_at_ones_above, le-ltb)

pub returns-else-pixels-lt64 : goal.returns-else-pixels-lt64
returns-else-pixels-lt64 c i in_word =
    ap (λ b. b == 1) (bit_at_ones 64 i in_word) ∙ sym (lt-ltb i c.args.pixels (omega arith))
