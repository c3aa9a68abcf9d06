-- What the words of a line say so far. Only proofs and private functions stand on it.
use Rattle.std.specs.Prelude.{◌≡◌, ℕ, ◌==◌, Bool, false, true, All, List, [], ◌∷◌, length, map, codes}
use Rattle.std.specs.Prelude.{if◌then◌else◌, Option, Some, None}
use Rattle.std.specs.List.{filter_map, list_all, slice_split}
use Rattle.std.specs.Str.{bytes_eq}
use Rattle.px_text.specs.Text.{Words, words_of, is_name}
use Rattle.px_normal.specs.declared.set.SolidSet.{SolidSet}
use Rattle.px_normal.specs.Sets.{IsBelow, sets_joined, one}
use Rattle.px_model.specs.Scenes.{SolidView}
use Rattle.px_prune.specs.Kept.{set_of}
use Rattle.px_shadow.specs.declared.light.Said.{Said}
use Rattle.px_shadow.specs.declared.light.Said.TheVariants as s
use Rattle.px_shadow.specs.LightLines.{lights_fault, is_solid_name, lights_of, solid_named}

abbrev pub are_some : Words → Bool
are_some [] = false
are_some (w ∷ ws) = true

-- the words after `light`
abbrev pub said_behind : List SolidView → Words → Said
said_behind ss ws = s.Light (are_some ws) (list_all is_name ws) (list_all (is_solid_name ss) ws)
    (set_of (filter_map (solid_named ss) ws))

abbrev pub said_of : List SolidView → Words → Said
said_of ss [] = s.Nothing
said_of ss (w ∷ ws) = if bytes_eq w (codes "light") then said_behind ss ws else s.Other

abbrev pub with_solid : SolidSet → Option ℕ → SolidSet
with_solid set None = set
with_solid set (Some q) = sets_joined set (one q)

-- the words of each piece between line feeds
abbrev pub pieces_of : List ℕ → List Words
pieces_of text = map words_of (slice_split (λ b. b == 10) text)

-- no line is bad, and these are their lights
pub record AreRead (ss : List SolidView) (first : ℕ) (lines : List Words) (lights : List SolidSet) : Type 0 where
  pub good : lights_fault ss first lines ≡ None
  pub each : lights ≡ lights_of ss lines
  pub known : All (IsBelow (length ss)) lights
