-- The lines of the command `sample`. Clauses of public calls stand on them.
use Rattle.std.specs.Prelude.{ℕ, List, ◌++◌, codes, decimal}

-- how many pixels show a face, the sum of their depths, how many products can show anything, and the clocks
unfoldable pub four_lines : (shown depths products clocks : ℕ) → List ℕ
four_lines shown depths products clocks =
    codes "shown " ++ decimal shown ++ codes "\ndepths " ++ decimal depths
    ++ codes "\nproducts " ++ decimal products ++ codes "\nclocks " ++ decimal clocks ++ codes "\n"
