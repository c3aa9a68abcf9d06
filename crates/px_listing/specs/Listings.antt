-- What a contract sees of a listing, and the canonical text of one. Clauses of public calls stand on it.
use Rattle.std.specs.Prelude.{ℕ, ◌≤◌, pos, All, List, [], ◌∷◌, ◌++◌, codes, length}
use Rattle.std.specs.List.{flat_map}
use Rattle.px_macro.specs.Macros.{IsLawful}
use Rattle.px_macro.specs.declared.operation.Macro.{Macro}
use Rattle.px_tree.specs.Nodes.{IsGrid}
use Rattle.px_listing.specs.declared.listing.TheConstants.{MAX_OPERATIONS}
use Rattle.px_listing.specs.Lines.{number_line}
use Rattle.px_listing.specs.Kinds.{kind_of, operands_of, word_of}

-- a grid of 2^nx by 2^ny pixels, and the operations that are broadcast to them
pub record ListingView : Type 0 where
  pub nx : ℕ
  pub ny : ℕ
  pub macros : List Macro

-- what every listing keeps
pub record IsListing (l : ListingView) : Type 0 where
  pub grid : IsGrid l.nx l.ny
  pub few : length l.macros ≤ MAX_OPERATIONS
  pub lawful : All (λ m. IsLawful m 256) l.macros

-- the line of an operation
abbrev pub macro_line : Macro → List ℕ
macro_line m = number_line (word_of (kind_of m)) (operands_of m)

unfoldable pub header_line : List ℕ
header_line = codes "pxlist 1\n"

abbrev pub grid_line : (nx ny : ℕ) → List ℕ
grid_line nx ny = number_line (codes "grid") (pos nx ∷ pos ny ∷ [])

abbrev pub end_line : List ℕ
end_line = number_line (codes "end") []

-- the two lines before the operations
abbrev pub listing_head : (nx ny : ℕ) → List ℕ
listing_head nx ny = header_line ++ grid_line nx ny

-- the header, the grid, a line for each operation, and the end
abbrev pub canonical_listing : ListingView → List ℕ
canonical_listing l = listing_head l.nx l.ny ++ flat_map macro_line l.macros ++ end_line
