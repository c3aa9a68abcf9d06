-- The grid of an array on which a scene's broadcasts are made.
use Rattle.px_num.proofs.Basics.{arith, rules}
use Rattle.px_model.proofs.GridLaws.{exponent_is}
use Rattle.px_control.specs.GridLaw.{GridLaw, SizeLaw}
use Rattle.px_control.proofs.ArrayLaws.{columns_at, rows_at}
use Rattle.px_control.proofs.PictureLemmas.{scene_grid}
use Rattle.px_control.proofs.RunLemmas.{grid_at, pixels_at}

pub covers_the_picture : GridLaw
covers_the_picture bits scene n device lawful at = grind (arith, exponent_is, columns_at, rows_at)

pub is_sized_array : SizeLaw
is_sized_array bits scene n device lawful at = search (rules, grid_at, scene_grid, pixels_at)
