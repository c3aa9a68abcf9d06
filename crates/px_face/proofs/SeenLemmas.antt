-- A picture shows at each pixel the first cell and the lowest-numbered face shown there, or the background.
use Rattle.px_num.proofs.Basics.{common_steps, ◌≡◌, ◌<◌, ◌≤◌, ℕ, true, List, [], ◌∷◌, length, arith, nat_tests}
use Rattle.px_face.proofs.Words.{has_face, least, min_cases, ScenesHaveSurfaces}
use Rattle.px_face.specs.Seen.{PicturesShowFirstCells}
use Rattle.px_face.proofs.BackgroundLemmas.{begins, first_cells}

-- the least of some numbers is one of them
least_shown : (ns : List ℕ) → 0 < length ns → has_face (least ns) ns ≡ true
least_shown [] some = absurd (omega arith)
least_shown (n ∷ []) some = grind (arith, nat_tests)
least_shown (n ∷ m ∷ ns) some = grind (arith, nat_tests, common_steps, min_cases, least_shown (m ∷ ns) (omega arith))

-- and none of them is less
least_lowest : (ns : List ℕ) (face : ℕ) → has_face face ns ≡ true → least ns ≤ face
least_lowest [] face has = absurd cc
least_lowest (n ∷ []) face has = grind (arith, nat_tests, has)
least_lowest (n ∷ m ∷ ns) face has = grind (arith, least_lowest (m ∷ ns) face)

pub shows_first_cells : ScenesHaveSurfaces → PicturesShowFirstCells
shows_first_cells surfaces scene lawful x y = grind (arith, first_cells, least_shown, begins, least_lowest)
