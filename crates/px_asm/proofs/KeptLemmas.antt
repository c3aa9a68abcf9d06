-- What the micros of an operation do not reset they leave as it was.
use Rattle.px_num.proofs.Basics.{arith, ◌≡◌, ℕ, zero, suc, ◌+◌, ◌^◌, ◌<◌, Bool, true, false}
use Rattle.px_num.proofs.Basics.{if◌then◌else◌, refl, sym}
use Rattle.px_asm.proofs.Words.{Act, act_at, after_act, after_clocks, cycles, HasGrid, Hold}
use Rattle.px_asm.proofs.Words.{LeavesTheRest, Macro, Micro, micro_at, micros, none_known, pixel_at}
use Rattle.px_asm.proofs.Words.{pixel_at-after_clock, PixelState, renewed, State}
use Rattle.px_asm.proofs.StepLemmas.{grid_after_steps, run_is_steps, steps}
use Rattle.px_array.specs.declared.act.Act.TheVariants as act

no : true ≡ false → ⊥
no e = cc

-- the acts that leave the carry
abbrev leaves_carry : Act → Bool
leaves_carry (act.SetCarry v) = false
leaves_carry (act.CarryTree at) = false
leaves_carry (act.CarryLatch at) = false
leaves_carry (act.AddTree at) = false
leaves_carry a = true

carry_left : (a : Act) (b : Bool) (p : PixelState) → leaves_carry a ≡ true → (after_act a b p).carry ≡ p.carry
carry_left a b p e = grind arith

-- and those that leave the latch
abbrev leaves_latch : Act → Bool
leaves_latch (act.Fetch at) = false
leaves_latch a = true

latch_left : (a : Act) (b : Bool) (p : PixelState) → leaves_latch a ≡ true → (after_act a b p).latch ≡ p.latch
latch_left (act.Fetch at) b p e = absurd (no (sym e))
latch_left a b p e = refl

-- a part of a pixel, and the acts that leave it
module _ (part : PixelState → Bool) (leaves : Act → Bool)
    (left : (a : Act) (b : Bool) (p : PixelState) → leaves a ≡ true → part (after_act a b p) ≡ part p) where
  steps_leave : (bits nx ny : ℕ) (micro : ℕ → Micro) (n : ℕ) (s : State) → HasGrid bits nx ny s
      → ((i : ℕ) → leaves (micro i).act ≡ true) → (place : ℕ) → place < 2 ^ (nx + ny)
      → part (pixel_at (steps micro n s) place) ≡ part (pixel_at s place)
  steps_leave bits nx ny micro zero s grid each place inside = refl
  steps_leave bits nx ny micro (suc n) s grid each place inside =
      let now = grid_after_steps bits nx ny micro n s grid in
      grind (arith, pixel_at-after_clock, steps, steps_leave bits nx ny micro n s grid each place inside)

-- one of two acts, one of two micros, and the acts on the bits of a value
module _ (leaves : Act → Bool) where
  choice : (b : Bool) (x y : Act) → leaves x ≡ true → leaves y ≡ true → leaves (if b then x else y) ≡ true
  choice true x y first second = first
  choice false x y first second = second

  micro_choice : (b : Bool) (x y : Micro) → leaves x.act ≡ true → leaves y.act ≡ true
      → leaves (if b then x else y).act ≡ true
  micro_choice true x y first second = first
  micro_choice false x y first second = second

  on_bits : (levels i : ℕ) (first : Act) (each : ℕ → Act) → leaves first ≡ true → leaves act.Nop ≡ true
      → ((t : ℕ) → leaves (each t) ≡ true) → leaves (act_at levels first each i) ≡ true
  on_bits levels i first each start rest step = grind (arith, choice)

micro_leaves_carry : (op : Macro) (nx ny i : ℕ) → (renewed op none_known).carry ≡ false
    → leaves_carry (micro_at op nx ny i).act ≡ true
micro_leaves_carry op nx ny i e = grind (arith, choice, on_bits)

micro_leaves_latch : (op : Macro) (nx ny i : ℕ) → (renewed op none_known).latch ≡ false
    → leaves_latch (micro_at op nx ny i).act ≡ true
micro_leaves_latch op nx ny i e = grind (arith, choice, on_bits, micro_choice)

micro_holds : (op : Macro) (nx ny i : ℕ) → (renewed op none_known).tree ≡ false → (micro_at op nx ny i).tree ≡ Hold
micro_holds op nx ny i e = grind arith

steps_hold : (micro : ℕ → Micro) (n : ℕ) (s : State) → ((i : ℕ) → (micro i).tree ≡ Hold)
    → (steps micro n s).tree ≡ s.tree
steps_hold micro zero s each = refl
steps_hold micro (suc n) s each = grind (arith, steps_hold micro n s each)

pub kept_by_micros : (bits nx ny : ℕ) (op : Macro) (s : State) → HasGrid bits nx ny s
    → LeavesTheRest op nx ny s (after_clocks (micros op nx ny) s)
kept_by_micros bits nx ny op s grid =
    let micro = micro_at op nx ny in
    let n = cycles op nx ny in
    rw (run_is_steps micro n s) (record {
      tree = λ e. steps_hold micro n s (λ i. micro_holds op nx ny i e);
      carry = λ e place inside. steps_leave (λ p. p.carry) leaves_carry carry_left bits nx ny micro n s grid
          (λ i. micro_leaves_carry op nx ny i e) place inside;
      latch = λ e place inside. steps_leave (λ p. p.latch) leaves_latch latch_left bits nx ny micro n s grid
          (λ i. micro_leaves_latch op nx ny i e) place inside;
    })
