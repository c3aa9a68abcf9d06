-- The text between the sides of an expression that is printed from its last byte to its first. Only proofs and
-- private functions stand on it.
use Rattle.std.specs.Prelude.{ℕ, ◌+◌, List, [], ◌∷◌, ◌++◌, Option, Some, None, replicate, slice_index_or}
use Rattle.px_expr.specs.declared.node.Op.{Op}
use Rattle.px_expr.specs.declared.node.Shape.{Shape}
use Rattle.px_expr.specs.declared.node.Shape.TheVariants as h
use Rattle.px_expr.specs.Tree.{Tree}
use Rattle.px_text.specs.Text.{Words}
use Rattle.px_show.specs.Printed.{printed, named_by}
use Rattle.px_show.specs.Versions.{sign_byte}
use Rattle.px_show.specs.declared.print.Gap.{Gap}

abbrev pub sign_text : Option Op → List ℕ
sign_text None = []
sign_text (Some op) = 32 ∷ sign_byte op ∷ 32 ∷ []

-- a sign, and the brackets that open behind it
abbrev pub gap_text : Gap → List ℕ
gap_text gap = sign_text gap.sign ++ replicate gap.opens 40

-- sides that wait, the last one first, each behind its gap
abbrev pub spread : Words → List Tree → List Gap → List ℕ
spread names [] gaps = []
spread names (tree ∷ trees) [] = []
spread names (tree ∷ trees) (gap ∷ gaps) = spread names trees gaps ++ gap_text gap ++ printed (named_by names tree)

-- the last gap is split: a right side stands behind the sign, a left side behind one more bracket
abbrev pub split_gap : Op → List Gap → List Gap
split_gap op [] = []
split_gap op (gap ∷ gaps) =
    record { sign = Some op; opens = 0 } ∷ record { sign = gap.sign; opens = gap.opens + 1 } ∷ gaps

abbrev pub first_gap : List Gap → List ℕ
first_gap [] = []
first_gap (gap ∷ gaps) = gap_text gap

abbrev pub other_gaps : List Gap → List Gap
other_gaps [] = []
other_gaps (gap ∷ gaps) = gaps

-- the gaps once a node of some shape is printed, and the text that it gives
abbrev pub gaps_before : Shape → List Gap → List Gap
gaps_before (h.Leaf place) gaps = other_gaps gaps
gaps_before (h.Join op left right) gaps = split_gap op gaps

abbrev pub text_of : Words → Shape → List Gap → List ℕ
text_of names (h.Leaf place) gaps = first_gap gaps ++ slice_index_or names place []
text_of names (h.Join op left right) gaps = 41 ∷ []
