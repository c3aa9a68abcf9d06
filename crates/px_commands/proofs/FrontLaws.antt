-- What was made of a text that was read was made of the input: a text of which no more was read is too long.
use Rattle.px_num.proofs.Basics.{ℕ, ◌≡◌, ◌≤◌, inl, inr, List, length, take, Err, Result, sym, subst, ◌∙◌, arith}
use Rattle.px_num.proofs.Basics.{length-take, cases_lt, take_all, Consumes}
use Rattle.px_io.specs.Reports.{ConsumesAtMost, IsFrontOf}
use Rattle.px_io.specs.declared.reading.ReadError.{ReadError}
use Rattle.px_array.specs.Slots.{ArrayView}
use Rattle.px_commands.specs.declared.stop.Stop.{Stop}
use Rattle.px_commands.specs.Ends.{Ends, IsUntouched}
use Rattle.px_commands.specs.Inputs.{PerformsOver, WritesAndLeaves}
use Rattle.px_commands.specs.Outcomes.{Outcome, refused}
use Rattle.px_commands.specs.Refusals.{too_long}
use Rattle.px_commands.specs.Results.{Meets}
use Rattle.px_commands.specs.Stops.{DoesWork, read_stop}
use Rattle.px_commands.proofs.RunLaws.{bytes_of, of_known, performs_over}
use Rattle.px_commands.proofs.StopLaws.{read_meets, read_writes}

-- what was answered and left, where a text was read
pub record ServesText (result : Result (Unit {0}) Stop) (answer : List ℕ → Outcome)
    (Leaves : List ℕ → (before now : ArrayView) → Type 0) (before after : Ends) (text : List ℕ)
    : Type 0 where
  pub serves : DoesWork result (answer text) before.out after.out
  pub array : Leaves text before.array after.array

-- a text past its limit is refused for it
abbrev pub RefusesLong : (answer : List ℕ → Outcome) → Type 0
RefusesLong answer = (text : List ℕ) → 1048577 ≤ length text → answer text ≡ refused too_long

-- and the array is left as it would be by any other text
abbrev pub LeavesAlike : Result (Unit {0}) Stop → (Leaves : List ℕ → (before now : ArrayView) → Type 0) → Type 0
LeavesAlike result Leaves = (one other : List ℕ) (before now : ArrayView) → 1048577 ≤ length one
    → Meets result (refused too_long) → Leaves one before now → Leaves other before now

-- what a command does over an input, where all that it leaves is said of the input's bytes
abbrev pub PerformsText : Result (Unit {0}) Stop → (answer : List ℕ → Outcome)
    → (Leaves : List ℕ → (before now : ArrayView) → Type 0) → (before after : Ends) → Type 0
PerformsText result answer Leaves before after =
    PerformsOver result answer (λ input. WritesAndLeaves result (answer input.bytes) (Leaves input.bytes) before after)
    before after

-- a text's front answers for it
pub front_serves : (result : Result (Unit {0}) Stop) (answer : List ℕ → Outcome)
    (Leaves : List ℕ → (before now : ArrayView) → Type 0) (before after : Ends) → RefusesLong answer
    → LeavesAlike result Leaves → (bytes : List ℕ)
    → ServesText result answer Leaves before after (take 1048577 bytes)
    → ServesText result answer Leaves before after bytes
front_serves result answer Leaves before after long alike bytes served = elim (cases_lt (length bytes) 1048577) [
  | inl short ↦ subst (λ text. ServesText result answer Leaves before after text)
      (take_all 1048577 bytes (omega arith)) served
  | inr past ↦
      let full : 1048577 ≤ length (take 1048577 bytes) = omega (arith, length-take 1048577 bytes) in
      let here : answer (take 1048577 bytes) ≡ refused too_long = long (take 1048577 bytes) full in
      record {
        serves = subst (λ o. DoesWork result o before.out after.out) (here ∙ sym (long bytes past)) served.serves;
        array = alike (take 1048577 bytes) bytes before.array after.array full
            (subst (λ o. Meets result o) here served.serves.meets) served.array;
      }
]

-- a text that was read answers for the input
pub text_serves : (result : Result (Unit {0}) Stop) (answer : List ℕ → Outcome)
    (Leaves : List ℕ → (before now : ArrayView) → Type 0) (before after : Ends) (text : List ℕ) → RefusesLong answer
    → LeavesAlike result Leaves → IsFrontOf before.rest 1048577 text
    → ServesText result answer Leaves before after text
    → ServesText result answer Leaves before after (bytes_of before.rest text)
text_serves result answer Leaves before after text long alike front served =
    of_known (λ bytes. ServesText result answer Leaves before after bytes) before.rest text
    (front_serves result answer Leaves before after long alike) front served

-- and what was made of all of it is what the command does
pub performs_served : (result : Result (Unit {0}) Stop) (answer : List ℕ → Outcome)
    (Leaves : List ℕ → (before now : ArrayView) → Type 0) (before after : Ends) (text : List ℕ)
    → Consumes before.rest after.rest text
    → ServesText result answer Leaves before after (bytes_of before.rest text)
    → PerformsText result answer Leaves before after
performs_served result answer Leaves before after text consumed whole =
    performs_over result answer
    (λ input. WritesAndLeaves result (answer input.bytes) (Leaves input.bytes) before after) before after text consumed
    whole.serves.meets (record { wrote = whole.serves.writes; array = whole.array })

-- the work stops at a read, whatever the text is
pub performs_unread : (fault : ReadError) (answer : List ℕ → Outcome)
    (Leaves : List ℕ → (before now : ArrayView) → Type 0) (before after : Ends) → IsUntouched before after
    → ConsumesAtMost before.rest after.rest 1048577 → ((text : List ℕ) → Leaves text before.array before.array)
    → PerformsText (Err (read_stop fault)) answer Leaves before after
performs_unread fault answer Leaves before after idle (taken, consumed, few) leaves =
    performs_over (Err (read_stop fault)) answer
    (λ input. WritesAndLeaves (Err (read_stop fault)) (answer input.bytes) (Leaves input.bytes) before after)
    before after taken consumed (read_meets fault _) (record {
      wrote = read_writes fault _ before.out after.out idle.out;
      array = rw idle.array (leaves (bytes_of before.rest taken));
    })
