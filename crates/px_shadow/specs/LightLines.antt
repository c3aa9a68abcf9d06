-- Light lines: which solids each of them names, and why the first bad line is bad. Clauses of public calls stand on it.
use Rattle.std.specs.Prelude.{ℕ, ◌+◌, ◌==◌, Bool, not, List, [], ◌∷◌, length, codes, if◌then◌else◌, Option}
use Rattle.std.specs.Prelude.{Some, None, is_some, Result, Ok, Err}
use Rattle.std.specs.List.{filter_map, list_all, position}
use Rattle.std.specs.Option.{option_map}
use Rattle.std.specs.Str.{bytes_eq}
use Rattle.px_text.specs.Text.{Words, is_name}
use Rattle.px_normal.specs.declared.set.SolidSet.{SolidSet}
use Rattle.px_model.specs.Scenes.{SolidView}
use Rattle.px_prune.specs.Kept.{set_of}
use Rattle.px_show.specs.Judged.{first_bad}
use Rattle.px_show.specs.declared.fault.Cause.{Cause}
use Rattle.px_show.specs.declared.fault.Cause.TheVariants.{BadName, Unexpected, UnknownName, WordCount}
use Rattle.px_shadow.specs.declared.light.LightFault.{LightFault}
use Rattle.px_shadow.specs.declared.passes.TheConstants.{MAX_LIGHTS}
use Rattle.px_shadow.specs.declared.light.LightFault.TheVariants.{Limit, Malformed}

-- the index of the solid of this name
abbrev pub solid_named : List SolidView → (name : List ℕ) → Option ℕ
solid_named ss name = position (λ s. bytes_eq s.name name) ss

abbrev pub is_solid_name : List SolidView → (name : List ℕ) → Bool
is_solid_name ss name = is_some (solid_named ss name)

-- the solids that these words name: one at least, all of them names, and all of solids
abbrev pub named : List SolidView → Words → Result SolidSet Cause
named ss [] = Err WordCount
named ss (w ∷ ws) =
    if not (list_all is_name (w ∷ ws)) then Err BadName else
    if not (list_all (is_solid_name ss) (w ∷ ws)) then Err UnknownName else
    Ok (set_of (filter_map (solid_named ss) (w ∷ ws)))

abbrev pub as_light : Result SolidSet Cause → Result (Option SolidSet) Cause
as_light (Ok set) = Ok (Some set)
as_light (Err cause) = Err cause

-- a line is `light` and names, or it has no words and says nothing
abbrev pub light_of : List SolidView → Words → Result (Option SolidSet) Cause
light_of ss [] = Ok None
light_of ss (w ∷ ws) = if bytes_eq w (codes "light") then as_light (named ss ws) else Err Unexpected

abbrev pub light_in : Result (Option SolidSet) Cause → Option SolidSet
light_in (Ok light) = light
light_in (Err cause) = None

-- the lights of some lines, in order
abbrev pub lights_of : List SolidView → List Words → List SolidSet
lights_of ss lines = filter_map (λ line. light_in (light_of ss line)) lines

-- a line of this number is bad by its words, or as the ninth light
abbrev pub line_fault : (number lights_before : ℕ) → Result (Option SolidSet) Cause → Option LightFault
line_fault number before (Err cause) = Some (Malformed number cause)
line_fault number before (Ok None) = None
line_fault number before (Ok (Some light)) = if before == MAX_LIGHTS then Some (Limit number (MAX_LIGHTS + 1)) else None

-- what is bad of a line behind others, of which the first has this number
abbrev pub light_fault_behind : List SolidView → (first : ℕ) → (before : List Words) → Words → Option LightFault
light_fault_behind ss first before line = line_fault (first + length before) (length (lights_of ss before))
    (light_of ss line)

-- the fault of the first bad line, if one is bad
abbrev pub lights_fault : List SolidView → (first : ℕ) → List Words → Option LightFault
lights_fault ss first lines = option_map (λ bad. bad.1) (first_bad (light_fault_behind ss first) [] lines)
