use Rattle.px_model.specs.Cells.{end_of}
use Rattle.px_face.proofs.CellLemmas.{has_cells}
use Rattle.px_face.proofs.CoveringLemmas.{covered_once}
use Rattle.px_face.proofs.ParityLemmas.{odd_inside, odd_inside_at}
use Rattle.px_face.proofs.cover.laws_of_covering.Goals as goal

pub returns-clause-covering : goal.returns-clause-covering
returns-clause-covering c = covered_once

pub returns-clause-cells : goal.returns-clause-cells
returns-clause-cells c = has_cells

pub returns-clause-parity : goal.returns-clause-parity
returns-clause-parity c s d x y = odd_inside s d x y (covered_once s (end_of d) x y)

pub returns-clause-values : goal.returns-clause-values
returns-clause-values c s end x y = odd_inside_at s end x y (covered_once s end x y)
