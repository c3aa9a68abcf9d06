-- What holds of the bytes of an input, and of an output, is what a command does.
use Rattle.px_num.proofs.Basics.{arith, ℕ, ◌≡◌, ◌++◌, List, [], take, drop, true, Option, Some, None, Result, Ok, Err}
use Rattle.px_num.proofs.Basics.{refl, ap, subst, sym, ◌∙◌, ◌≤◌, IfOk, OnErr, length, take-append-drop, Appends}
use Rattle.px_num.proofs.Basics.{Consumes}
use Rattle.std.proofs.Common.{Global, Vec}
use Rattle.std.proofs.lemmas.List.{append-nil, append_cancel_left}
use Rattle.px_io.specs.Counts.{Rose}
use Rattle.px_io.specs.Reports.{ConsumesAtMost, IsFrontOf, SinkState, TakesFront, Tells}
use Rattle.px_io.proofs.ToldLaws.{stays}
use Rattle.px_commands.specs.declared.stop.Stop.{Stop}
use Rattle.px_commands.specs.Outcomes.{Outcome, done}
use Rattle.px_commands.specs.Ends.{Ends, Input, IsUntouched}
use Rattle.px_commands.specs.Inputs.{BeginsWith, IsInput, IsRestBehind, PerformsOver}
use Rattle.px_commands.specs.Results.{Meets}
use Rattle.px_commands.specs.Stops.{DoesWork}
use Rattle.px_commands.specs.declared.stop.Stop.TheVariants as s

-- the bytes of an input that reports them, and those taken of another
abbrev pub bytes_of : Option (List ℕ) → (taken : List ℕ) → List ℕ
bytes_of None taken = taken
bytes_of (Some bytes) taken = bytes

is_input : (known : Option (List ℕ)) (taken : List ℕ) → IsInput known (bytes_of known taken)
is_input None taken = tt
is_input (Some bytes) taken = refl

begins : (known rest : Option (List ℕ)) (taken : List ℕ) → Consumes known rest taken
    → BeginsWith (bytes_of known taken) taken
begins None rest taken consumed = ([], sym (append-nil taken))
begins (Some bytes) None taken consumed = absurd consumed
begins (Some bytes) (Some rest) taken consumed = (rest, consumed)

abbrev pub input_of : Option (List ℕ) → (taken : List ℕ) → Input
input_of known taken = record { bytes = bytes_of known taken; taken = taken }

-- what is so of the bytes of an input is what a command does over it
pub performs_over : (result : Result (Unit {0}) Stop) (answer : List ℕ → Outcome) (Leaves : Input → Type 0)
    (before after : Ends)
    (taken : List ℕ) → Consumes before.rest after.rest taken → Meets result (answer (bytes_of before.rest taken))
    → Leaves (input_of before.rest taken) → PerformsOver result answer Leaves before after
performs_over result answer Leaves before after taken consumed meets leaves = grind (arith, is_input, begins)

-- what is so of a text that was read is so of the input, where it is so of a text whose front it is so of
pub of_known : (P : List ℕ → Type 0) (known : Option (List ℕ)) (text : List ℕ)
    → ((bytes : List ℕ) → P (take 1048577 bytes) → P bytes) → IsFrontOf known 1048577 text → P text
    → P (bytes_of known text)
of_known P None text grows front p = p
of_known P (Some bytes) text grows front p = grows bytes (subst P front p)

-- the ends of the output and of the array are as before
pub still : (before after : Ends) → after.out ≡ before.out → after.array ≡ before.array → IsUntouched before after
still before after out array = record { out = rw out (stays before.out); array = array }

-- a whole output
pub serves_whole : (o : Outcome) (bytes : List ℕ) (a b : SinkState) (u : Unit {0}) → o ≡ done bytes
    → Appends a.written b.written bytes → Tells b.finished true → b.faults ≡ a.faults → DoesWork (Ok u) o a b
serves_whole o bytes a b u is whole finished calm = grind arith

-- images that a write cut short
pub serves_front : (o : Outcome) (bytes : List ℕ) (a b : SinkState) → o ≡ done bytes
    → TakesFront a b bytes → Rose a.faults b.faults → DoesWork (Err s.WriteFault) o a b
serves_front o bytes a b is front rose = grind arith

-- the rest of an input whose front was taken
pub rest_behind : (old new : Option (List ℕ)) (text : List ℕ) → Consumes old new text → IsFrontOf old 1048577 text
    → IsRestBehind old new
rest_behind None new text taken front = tt
rest_behind (Some bytes) None text taken front = absurd taken
rest_behind (Some bytes) (Some rest) text taken front = ap Some (same_rest bytes rest text taken front)
  where
    same_rest : (bytes rest text : List ℕ) → bytes ≡ text ++ rest → text ≡ take 1048577 bytes
        → rest ≡ drop 1048577 bytes
    same_rest bytes rest text whole front =
        let parts : take 1048577 bytes ++ rest ≡ take 1048577 bytes ++ drop 1048577 bytes =
        ap (λ t. t ++ rest) (sym front) ∙ sym whole ∙ sym (take-append-drop 1048577 bytes)
        in append_cancel_left (take 1048577 bytes) rest (drop 1048577 bytes) parts

-- what a reading took, whether it failed or not
pub took_most : {E : Type 0} (result : Result (Vec ℕ Global) E) (old new : Option (List ℕ)) (limit : ℕ)
    → IfOk result (λ v. Consumes old new v.items) → IfOk result (λ v. length v.items ≤ limit)
    → OnErr result (ConsumesAtMost old new limit) → ConsumesAtMost old new limit
took_most (Ok v) old new limit taken few err = (v.items, taken, few)
took_most (Err e) old new limit taken few err = err
