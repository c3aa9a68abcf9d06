-- The words of causes and of limits. Clauses of public calls stand on them.
use Rattle.std.specs.Prelude.{ℕ, List, codes}
use Rattle.px_show.specs.declared.fault.Cause.{Cause}
use Rattle.px_show.specs.declared.fault.Cause.TheVariants as c
use Rattle.px_show.specs.declared.fault.LimitKind.{LimitKind}
use Rattle.px_show.specs.declared.fault.LimitKind.TheVariants as k
use Rattle.px_listing.specs.declared.limit.ListKind.{ListKind}
use Rattle.px_listing.specs.declared.limit.ListKind.TheVariants as l

-- the word of a cause
abbrev pub cause_word : Cause → List ℕ
cause_word c.NotHeader = codes "not-header"
cause_word c.Unexpected = codes "unexpected"
cause_word c.WordCount = codes "word-count"
cause_word c.NotNumber = codes "not-number"
cause_word c.BadName = codes "bad-name"
cause_word c.SecondName = codes "second-name"
cause_word c.BadExpression = codes "bad-expression"
cause_word c.UnknownName = codes "unknown-name"
cause_word c.AfterEnd = codes "after-end"
cause_word c.MissingEnd = codes "missing-end"

-- the word of a limit of scenes
abbrev pub scene_word : LimitKind → List ℕ
scene_word k.Text = codes "text"
scene_word k.Picture = codes "picture"
scene_word k.Depth = codes "depth"
scene_word k.Colour = codes "colour"
scene_word k.Coefficient = codes "coefficient"
scene_word k.Solids = codes "solids"
scene_word k.Fronts = codes "fronts"
scene_word k.Backs = codes "backs"
scene_word k.Sides = codes "sides"
scene_word k.Faces = codes "faces"
scene_word k.Leaves = codes "leaves"
scene_word k.Nesting = codes "nesting"
scene_word k.Fraction = codes "fraction"
scene_word k.PixelMemory = codes "pixel-memory"
scene_word k.Products = codes "products"

-- the word of a limit of listings
abbrev pub list_word : ListKind → List ℕ
list_word l.Grid = codes "grid"
list_word l.Coefficient = codes "coefficient"
list_word l.Length = codes "length"
list_word l.Place = codes "place"
list_word l.Value = codes "value"
list_word l.Overlap = codes "overlap"
