-- The places that micros name.
use Rattle.px_num.proofs.Basics.{rules}
use Rattle.px_num.proofs.Basics.{◌≡◌, ℕ, ◌+◌, ◌-◌, ◌<◌, ◌==◌, Bool, true, false, if◌then◌else◌, nat_lt, refl, arith}
use Rattle.px_num.proofs.Basics.{nat_tests}
use Rattle.px_asm.proofs.Words.{Act, act_at, cycles, get_or-tabulate, HasPlace, HaveTheirPlaces}
use Rattle.px_asm.proofs.Words.{IsLawful, length-tabulate}
use Rattle.px_asm.proofs.Words.{Macro, Micro, micro_at}

chosen : (bits : ℕ) (b : Bool) (p q : Act) → (b ≡ true → HasPlace bits p) → (b ≡ false → HasPlace bits q)
    → HasPlace bits (if b then p else q)
chosen bits true p q first second = first refl
chosen bits false p q first second = second refl

pub act_of_choice : (b : Bool) (m n : Micro) → (if b then m else n).act ≡ (if b then m.act else n.act)
act_of_choice true m n = refl
act_of_choice false m n = refl

bit_in_field : (levels i len : ℕ) → i < 1 + levels + len → nat_lt levels i ≡ true → i - 1 - levels < len
bit_in_field levels i len low past = grind (arith, nat_tests)

for_each_bit : (bits levels len i : ℕ) (first : Act) (each : ℕ → Act) → HasPlace bits first
    → ((t : ℕ) → t < len → HasPlace bits (each t)) → i < 1 + levels + len → HasPlace bits (act_at levels first each i)
for_each_bit bits levels len i first each start bit low = grind (arith, chosen, bit_in_field)

before_last : (i last : ℕ) → i < 1 + last → (i == last) ≡ false → i < last
before_last i last low differs = grind (arith, nat_tests)

pub has_place : (bits nx ny : ℕ) (m : Macro) → IsLawful m bits → (i : ℕ) → i < cycles m nx ny
    → HasPlace bits (micro_at m nx ny i).act
has_place bits nx ny m h i p = search rules

pub have_their_places : HaveTheirPlaces
have_their_places bits nx ny m lawful k d low = grind (arith, length-tabulate, get_or-tabulate, has_place)
