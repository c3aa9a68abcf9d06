-- How an expression is printed: a name, or `(X + Y)` with one space on each side of the sign. Clauses of public
-- calls stand on it.
use Rattle.std.specs.Prelude.{◌≢◌, ℕ, List, [], ◌∷◌, ◌++◌, slice_index_or, AllPairs}
use Rattle.std.specs.List.{AllPass}
use Rattle.px_expr.specs.Tree.{Tree}
use Rattle.px_expr.specs.Tree as tree
use Rattle.px_text.specs.Text.{Words, is_name}
use Rattle.px_show.specs.Expressions.{Named, leaf, join}
use Rattle.px_show.specs.Versions.{sign_byte}

abbrev pub printed : Named → List ℕ
printed (leaf name) = name
printed (join op left right) = 40 ∷ (printed left ++ 32 ∷ sign_byte op ∷ 32 ∷ (printed right ++ 41 ∷ []))

-- an expression over solids by their names
abbrev pub named_by : Words → Tree → Named
named_by names (tree.leaf place) = leaf (slice_index_or names place [])
named_by names (tree.join op left right) = join op (named_by names left) (named_by names right)

-- the names of solids, no two alike
pub record AreDistinctNames (names : Words) : Type 0 where
  pub lawful : AllPass is_name names
  pub different : AllPairs (λ m n. m ≢ n) names
