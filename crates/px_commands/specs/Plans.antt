-- The lines of the command `plan`. Clauses of public calls stand on them.
use Rattle.std.specs.Prelude.{ℕ, List, [], ◌∷◌, ◌++◌, length, codes, decimal, slice_get, unwrap_or}
use Rattle.std.specs.List.{flat_map}
use Rattle.px_normal.specs.declared.product.Product.{Product}
use Rattle.px_normal.specs.Sets.{solids}

unfoldable pub kept_line : ℕ → ℕ → List ℕ
kept_line kept all = codes "kept " ++ decimal kept ++ codes " of " ++ decimal all ++ codes "\n"

abbrev pub name_at : List (List ℕ) → ℕ → List ℕ
name_at names solid = unwrap_or (slice_get names solid) []

-- names, each behind a sign
abbrev pub signed : List ℕ → List (List ℕ) → List ℕ → List ℕ
signed sign names indices = flat_map (λ solid. sign ++ name_at names solid) indices

-- the plain solids joined by stars
abbrev pub starred : List (List ℕ) → List ℕ → List ℕ
starred names [] = []
starred names (solid ∷ others) = name_at names solid ++ signed (codes " * ") names others

abbrev pub product_line : List (List ℕ) → Product → List ℕ
product_line names product =
    starred names (solids product.plain) ++ signed (codes " - ") names (solids product.barred) ++ codes "\n"

-- the count of the kept products and of all, and a line for each that is kept
abbrev pub plan_text : List (List ℕ) → ℕ → List Product → List ℕ
plan_text names all kept = kept_line (length kept) all ++ flat_map (product_line names) kept
