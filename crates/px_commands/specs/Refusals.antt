-- Why a text is refused, or what it asks of an array. Clauses of public calls stand on it.
use Rattle.std.specs.Prelude.{ℕ, ℤ, pos, Bool, List, Option, Some, None, length, nat_lt}
use Rattle.px_text.specs.declared.text.TheConstants.{MAX_TEXT_BYTES}
use Rattle.px_show.specs.declared.fault.LimitKind.{LimitKind}
use Rattle.px_show.specs.declared.fault.LimitKind.TheVariants as kind
use Rattle.px_show.specs.Judged.{SceneFault}
use Rattle.px_show.specs.declared.fault.TextFault.TheVariants as f
use Rattle.px_scene.specs.Reading.{refusal_of}
use Rattle.px_frame.specs.declared.fine_fault.FineFault.{FineFault}
use Rattle.px_frame.specs.declared.fine_fault.FineFault.TheVariants as fault
use Rattle.px_listing.specs.Reading.{ListFault}
use Rattle.px_commands.specs.declared.refusal.TheConstants.{READ_LIMIT}
use Rattle.px_commands.specs.declared.refusal.Kind.TheVariants as k
use Rattle.px_commands.specs.declared.refusal.Refusal.{Refusal}
use Rattle.px_commands.specs.declared.refusal.Refusal.TheVariants as r

-- the refusal of a fault; that memory ran out is none
abbrev pub refusal_in : SceneFault → Option Refusal
refusal_in (f.Malformed line cause) = Some (r.Malformed line cause)
refusal_in (f.Limit line kind found) = Some (r.Limit line (k.Scene kind) found)
refusal_in (f.Memory _) = None

abbrev pub refusal_by : Option SceneFault → Option Refusal
refusal_by None = None
refusal_by (Some fault) = refusal_in fault

-- why a text is no scene, where it is none
abbrev pub text_refusal : List ℕ → Option Refusal
text_refusal text = refusal_by (refusal_of text)

-- more wanted products than a list may have
abbrev pub too_many : (count : ℕ) → Refusal
too_many count = r.Limit 0 (k.Scene kind.Products) (pos count)

-- more bits than a pixel has
abbrev pub short_of_bits : (need : ℕ) → Refusal
short_of_bits need = r.Limit 0 (k.Scene kind.PixelMemory) (pos need)

-- more bytes than a text may have
abbrev pub too_long : Refusal
too_long = r.Limit 0 (k.Scene kind.Text) (pos READ_LIMIT)

-- whether a text has more
unfoldable pub is_long : List ℕ → Bool
is_long bytes = nat_lt MAX_TEXT_BYTES (length bytes)

-- the refusal of a listing's fault; that memory ran out is none
abbrev pub list_refusal_in : ListFault → Option Refusal
list_refusal_in (f.Malformed line cause) = Some (r.Malformed line cause)
list_refusal_in (f.Limit line kind found) = Some (r.Limit line (k.List kind) found)
list_refusal_in (f.Memory _) = None

-- and of a finer scene's
abbrev pub scene_limit : LimitKind → (found : ℤ) → Refusal
scene_limit kind found = r.Limit 0 (k.Scene kind) found

abbrev pub fault_refusal : FineFault → Option Refusal
fault_refusal (fault.Fraction found) = Some (scene_limit kind.Fraction (pos found))
fault_refusal (fault.Picture found) = Some (scene_limit kind.Picture (pos found))
fault_refusal (fault.Coefficient found) = Some (scene_limit kind.Coefficient found)
fault_refusal (fault.Memory _) = None
