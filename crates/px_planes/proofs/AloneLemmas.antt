-- Each pixel alone.
use Rattle.px_num.proofs.Basics.{◌≡◌, ◌+◌, [], ◌∷◌, refl, arith}
use Rattle.px_array.proofs.ClockLaws.{nx-after_tree_op, ny-after_tree_op, pixel_at-after_clock}
use Rattle.px_array.specs.Clocks.{after_clock, after_tree_op}
use Rattle.px_planes.specs.ArraysLaw.{EachPixelIsAlone}

pub each_pixel_is_alone : EachPixelIsAlone
each_pixel_is_alone [] start place within = refl
each_pixel_is_alone (m ∷ ms) start place within =
    let size : (after_tree_op m.tree start.tree).nx + (after_tree_op m.tree start.tree).ny ≡ start.tree.nx
    + start.tree.ny = omega (arith, nx-after_tree_op m.tree start.tree, ny-after_tree_op m.tree start.tree) in
    grind (arith, pixel_at-after_clock, each_pixel_is_alone ms (after_clock m start) place (rw size within))
