use Rattle.px_num.proofs.Basics.{arith, w64, to_z-of_z}
use Rattle.px_rows.proofs.OffsetLemmas.{offset_in_column}
use Rattle.px_rows.proofs.sides.signs.Goals as goal

pub returns-else-ny-lt-LEVELS : goal.returns-else-ny-lt-LEVELS
returns-else-ny-lt-LEVELS c j small = grind (arith, to_z-of_z, offset_in_column)

pub returns-then-ny-lt-LEVELS : goal.returns-then-ny-lt-LEVELS
returns-then-ny-lt-LEVELS c j small =
    rw (to_z-of_z w64 c.args.base c.ranges.base) at (c.signs_of_pixels.ensures j small)
