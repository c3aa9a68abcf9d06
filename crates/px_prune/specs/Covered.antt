-- Boxes that lie in others, where they are there. Only proofs and private functions stand on it.
use Rattle.std.specs.Prelude.{Bool, true, false, Option, Some, None}
use Rattle.px_normal.specs.declared.cell_box.CellBox.{CellBox}
use Rattle.px_prune.specs.Boxes.{is_part}

-- the first box, where it is there, lies in the second, which then is there too
abbrev pub is_covered : Option CellBox → Option CellBox → Bool
is_covered None b = true
is_covered (Some a) None = false
is_covered (Some a) (Some b) = is_part (Some a) b
