-- The lines of the command `cost`. Clauses of public calls stand on them.
use Rattle.std.specs.Prelude.{ℕ, List, ◌++◌, codes, decimal}

-- how many operations the passes have, and how many clocks they take
unfoldable pub cost_text : (operations clocks : ℕ) → List ℕ
cost_text operations clocks =
    codes "macros " ++ decimal operations ++ codes "\nclocks " ++ decimal clocks ++ codes "\n"
