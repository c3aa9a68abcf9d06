-- The numbers of causes and of what has a limit. Clauses of public calls stand on them.
use Rattle.std.specs.Prelude.{ℕ}
use Rattle.px_show.specs.declared.fault.Cause.{Cause}
use Rattle.px_show.specs.declared.fault.Cause.TheVariants as c
use Rattle.px_show.specs.declared.fault.LimitKind.{LimitKind}
use Rattle.px_show.specs.declared.fault.LimitKind.TheVariants as k
use Rattle.px_listing.specs.declared.limit.ListKind.{ListKind}
use Rattle.px_listing.specs.declared.limit.ListKind.TheVariants as l
use Rattle.px_commands.specs.declared.refusal.Kind.{Kind}
use Rattle.px_commands.specs.declared.refusal.Kind.TheVariants as any

abbrev pub cause_number : Cause → ℕ
cause_number c.NotHeader = 1
cause_number c.Unexpected = 2
cause_number c.WordCount = 3
cause_number c.NotNumber = 4
cause_number c.BadName = 5
cause_number c.SecondName = 6
cause_number c.BadExpression = 7
cause_number c.UnknownName = 8
cause_number c.AfterEnd = 9
cause_number c.MissingEnd = 10

-- of a scene's limits
abbrev pub kind_number : LimitKind → ℕ
kind_number k.Text = 1
kind_number k.Picture = 2
kind_number k.Depth = 3
kind_number k.Colour = 4
kind_number k.Coefficient = 5
kind_number k.Solids = 6
kind_number k.Fronts = 7
kind_number k.Backs = 8
kind_number k.Sides = 9
kind_number k.Faces = 10
kind_number k.Leaves = 11
kind_number k.Nesting = 12
kind_number k.Fraction = 13
kind_number k.PixelMemory = 14
kind_number k.Products = 15

-- of a listing's
abbrev pub list_number : ListKind → ℕ
list_number l.Grid = 16
list_number l.Coefficient = 17
list_number l.Length = 18
list_number l.Place = 19
list_number l.Value = 20
list_number l.Overlap = 21

-- of all, with those of lights and of tiles
abbrev pub limit_number : Kind → ℕ
limit_number (any.Scene kind) = kind_number kind
limit_number (any.List kind) = list_number kind
limit_number any.Lights = 22
limit_number any.Tiles = 23
