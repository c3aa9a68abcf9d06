-- Operations one after another, of which some are made at once.
use Rattle.px_num.proofs.Basics.{◌≡◌, ℕ, suc, ◌+◌, ◌*◌, ◌<◌, ◌≤◌, List, [], ◌∷◌, ◌++◌, length, drop, get_or, refl, sym}
use Rattle.px_num.proofs.Basics.{ap, ◌∙◌, arith, common_steps, All, between, drop-append-le, drop-cons}
use Rattle.px_num.proofs.Basics.{length-append}
use Rattle.px_asm.proofs.Words.{after_clocks, AgreeIn, all_clocked, all_clocked-append, all_known, all_made}
use Rattle.px_asm.proofs.Words.{all_renewed, BecomeTheSameAgain, CanMake, Device, get_or-drop}
use Rattle.px_asm.proofs.Words.{grid_after_clocks, HasGrid, IsLawful, IsOperated, IsOvertaken, joined, Known}
use Rattle.px_asm.proofs.Words.{length-drop, Macro, micros, micros_on, none_known, renewed, StayKnown, untouched}
use Rattle.std.proofs.lemmas.Slice.{between_to_end}
use Rattle.px_asm.proofs.MakingLemmas.{count_of_them}
use Rattle.px_macro.specs.declared.operation.Macro.TheVariants as m

-- where all is known, it stays so
stays_known : (op : Macro) → renewed op all_known ≡ all_known
stays_known m.All = refl
stays_known op = refl

pub all_stay : (ops : List Macro) → all_renewed ops all_known ≡ all_known
all_stay [] = refl
all_stay (op ∷ ops) = ap (all_renewed ops) (stays_known op) ∙ all_stay ops

renewed_both : (xs ys : List Macro) (k : Known) → all_renewed (xs ++ ys) k ≡ all_renewed ys (all_renewed xs k)
renewed_both [] ys k = refl
renewed_both (x ∷ xs) ys k = renewed_both xs ys (renewed x k)

-- what was known before stays so
stays_joined : (op : Macro) (k j : Known) → renewed op (joined k j) ≡ joined (renewed op k) j
stays_joined m.All k j = refl
stays_joined op k j = refl

all_joined : (ops : List Macro) (k j : Known) → all_renewed ops (joined k j) ≡ joined (all_renewed ops k) j
all_joined [] k j = refl
all_joined (op ∷ ops) k j = ap (all_renewed ops) (stays_joined op k j) ∙ all_joined ops (renewed op k) j

either_way : (k j : Known) → joined k j ≡ joined j k
either_way k j = grind arith

-- so what some operations reset may be known first
pub reset_again : (xs ys : List Macro) (k : Known)
    → all_renewed (xs ++ ys) k ≡ all_renewed xs (joined k (all_renewed ys none_known))
reset_again xs ys k =
    let again = all_renewed ys none_known in
    renewed_both xs ys k ∙ all_joined ys none_known (all_renewed xs k) ∙ either_way again (all_renewed xs k)
    ∙ sym (all_joined xs k again)

-- an operation that is made at once leaves what its clocks leave, once those that reset what it does are made
pub overtaken : StayKnown → BecomeTheSameAgain → (bits : ℕ) (op : Macro) (rest : List Macro) (before now : Device)
    → CanMake bits (op ∷ rest) before → IsOperated bits op before now → IsOvertaken op rest
    → all_made rest now ≡ all_made (op ∷ rest) before
overtaken stay again bits op rest before now can operated over =
    let nx = before.state.tree.nx in
    let ny = before.state.tree.ny in
    let lawful : IsLawful op bits = can.places 0 op (omega arith) in
    let rest_lawful : All (λ op. IsLawful op bits) rest = λ i d low. can.places (suc i) d (omega arith) in
    let same : AgreeIn all_known bits nx ny before.state before.state = record {
      agree = record { first = can.pixels; second = can.pixels; pixels = λ x y column row. refl };
      tree = λ e. refl;
      carry = λ e place inside. refl;
      latch = λ e place inside. refl;
    } in
    let known = stay bits nx ny can.grid op lawful all_known before now before.state same operated in
    let state = again bits nx ny rest rest_lawful (untouched op all_known) now.state
    (after_clocks (micros op nx ny) before.state) known over in
    grind (arith, common_steps, count_of_them, all_clocked-append)

-- its clocks leave the same
pub clocked_first : (bits : ℕ) (op : Macro) (rest : List Macro) (before now : Device)
    → CanMake bits (op ∷ rest) before → now ≡ all_clocked (micros_on before op) before
    → all_made rest now ≡ all_made (op ∷ rest) before
clocked_first bits op rest before now can is =
    let size = grid_after_clocks bits before.state.tree.nx before.state.tree.ny (micros_on before op) before.state
    can.pixels in
    grind (arith, common_steps, all_clocked-append)

own_grid : (bits nx ny : ℕ) (d : Device) → HasGrid bits nx ny d.state
    → HasGrid bits d.state.tree.nx d.state.tree.ny d.state
own_grid bits nx ny d grid = grind arith

-- what remains of two lists is an operation, the rest of the first, and the second
pub left_is : (ops behind : List Macro) (i : ℕ) (d : Macro) → i < length ops
    → drop i (ops ++ behind) ≡ get_or ops i d ∷ (between (i + 1) (length ops) ops ++ behind)
left_is ops behind i d low = grind (arith, between_to_end, drop-append-le, drop-cons)

-- and it can be made
pub can_go_on : (bits : ℕ) (ops behind : List Macro) (i : ℕ) (d : Macro) (start now : Device)
    → CanMake bits (ops ++ behind) start → i < length ops
    → HasGrid bits start.state.tree.nx start.state.tree.ny now.state → now.clocks ≤ start.clocks + 82 * i
    → CanMake bits (get_or ops i d ∷ (between (i + 1) (length ops) ops ++ behind)) now
can_go_on bits ops behind i d start now can low pixels few =
    let all = ops ++ behind in
    let size = length-drop i all in
    let both = length-append ops behind in
    rw (← left_is ops behind i d low) record {
      grid = rw (pixels.columns, pixels.rows) can.grid;
      pixels = own_grid bits start.state.tree.nx start.state.tree.ny now pixels;
      lawful = λ j e below. rw (get_or-drop i all j e) (can.lawful (i + j) e (omega (arith, size)));
      places = λ j e below. rw (get_or-drop i all j e) (can.places (i + j) e (omega (arith, size)));
      counted = omega (arith, can.counted, size, both);
    }
