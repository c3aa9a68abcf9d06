-- The first word of a line, and the version. Clauses of public calls stand on it.
use Rattle.std.specs.Prelude.{ℕ, List, [], ◌∷◌, Bool, false, codes, if◌then◌else◌, Option, Some, None}
use Rattle.std.specs.Str.{bytes_eq}
use Rattle.px_text.specs.Text.{Words}
use Rattle.px_listing.specs.Kinds.{kind_named}
use Rattle.px_listing.specs.declared.kind.Kind.{Kind}
use Rattle.px_listing.specs.declared.keyword.Keyword.{Keyword}
use Rattle.px_listing.specs.declared.keyword.Keyword.TheVariants as k

-- the keyword of an operation, where there is one
abbrev pub operation_or_other : Option Kind → Keyword
operation_or_other (Some kind) = k.Operation kind
operation_or_other None = k.Other

-- what the first word of a line begins
abbrev pub listing_keyword_of : List ℕ → Keyword
listing_keyword_of w =
    if bytes_eq w (codes "pxlist") then k.Pxlist
    else if bytes_eq w (codes "grid") then k.Grid
    else if bytes_eq w (codes "end") then k.End
    else operation_or_other (kind_named w)

-- the version of a listing
abbrev pub is_one : Words → Bool
is_one (w ∷ []) = bytes_eq w (codes "1")
is_one ws = false
