-- Lines that are judged one after another: why a line is bad, the first bad line of a text, and why a text is refused,
-- whatever has a limit in it. Clauses of public calls stand on it.
use Rattle.std.specs.Prelude.{ℕ, ℤ, pos, ◌+◌, ◌-ℤ◌, List, [], ◌∷◌, ◌++◌, length, Bool, true, false, ◌&&◌}
use Rattle.std.specs.Prelude.{if◌then◌else◌, Option, Some, None}
use lib.Signed.{le_z}
use Rattle.px_text.specs.Text.{Words}
use Rattle.px_show.specs.declared.fault.Cause.{Cause}
use Rattle.px_show.specs.declared.fault.Cause.TheVariants as c
use Rattle.px_show.specs.declared.fault.LimitKind.{LimitKind}
use Rattle.px_show.specs.declared.fault.LineFault.{LineFault}
use Rattle.px_show.specs.declared.fault.LineFault.TheVariants as f
use Rattle.px_show.specs.declared.fault.TextFault.{TextFault}
use Rattle.px_show.specs.declared.fault.TextFault.TheVariants as fault

-- why a text is no scene
abbrev pub SceneFault : Type 0
SceneFault = TextFault LimitKind

-- a cause, otherwise a limit that is passed
abbrev pub judged : {K : Type 0} → Option Cause → Option (LineFault K) → Option (LineFault K)
judged (Some cause) limit = Some (f.Malformed cause)
judged None limit = limit

-- a number past its range
abbrev pub past : {K : Type 0} → K → ℤ → ℤ → ℤ → Option (LineFault K)
past kind low high found = if le_z low found && le_z found high then None else Some (f.Limit kind found)

-- a number past n in size
abbrev pub size_past : {K : Type 0} → K → ℕ → ℤ → Option (LineFault K)
size_past kind n z = past kind (pos 0 -ℤ pos n) (pos n) z

-- the fault of this line, otherwise a later one
abbrev pub at_line : {F : Type 0} → ℕ → Option F → Option (ℕ × F) → Option (ℕ × F)
at_line number (Some fault) later = Some (number, fault)
at_line number None later = later

-- the first bad line of lines behind others, counted from 1, and why it is bad, each judged by the lines before it
abbrev pub first_bad : {F : Type 0} → (List Words → Words → Option F) → (before lines : List Words) → Option (ℕ × F)
first_bad judge before [] = None
first_bad judge before (l ∷ ls) = at_line (length before + 1) (judge before l) (first_bad judge (before ++ l ∷ []) ls)

-- a line's fault, as the text's
abbrev pub fault_at : {K : Type 0} → ℕ → LineFault K → TextFault K
fault_at line (f.Malformed cause) = fault.Malformed line cause
fault_at line (f.Limit kind found) = fault.Limit line kind found

-- the first bad line, otherwise the missing end, at the last line
abbrev pub refused : {K : Type 0} → Option (ℕ × LineFault K) → Bool → ℕ → Option (TextFault K)
refused (Some bad) ended count = Some (fault_at bad.0 bad.1)
refused None true count = None
refused None false count = Some (fault.Malformed count c.MissingEnd)
