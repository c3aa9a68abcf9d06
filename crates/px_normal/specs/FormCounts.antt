-- The lengths of normal forms, up to a limit. Only proofs and private functions stand on it.
use Rattle.std.specs.Prelude.{ℕ, ◌+◌, ◌*◌, length}
use Rattle.px_expr.specs.Tree.{Tree}
use Rattle.px_expr.specs.declared.node.Op.{Op}
use Rattle.px_expr.specs.Cells.{combination_of, complement_of, opposite}
use Rattle.px_expr.specs.declared.node.Sense.{Sense}
use Rattle.px_expr.specs.declared.node.Sense.TheVariants.{Plain, Complement}
use Rattle.px_expr.specs.declared.node.Combination.{Combination}
use Rattle.px_expr.specs.declared.node.Combination.TheVariants.{Both, Either, EitherWay}
use Rattle.px_normal.specs.Forms.{forms}
use Rattle.px_normal.specs.declared.count.Counts.{Counts}
use Rattle.px_normal.specs.Counting.{capped}

abbrev pub counts_of : Tree → Counts
counts_of tree = record {
  products = capped (length (forms tree).products);
  complement = capped (length (forms tree).complement);
}

abbrev pub counted_in : Sense → Counts → ℕ
counted_in Plain side = side.products
counted_in Complement side = side.complement

abbrev pub count_when : Combination → Counts → Counts → ℕ
count_when (Both first second) a b = capped (counted_in first a * counted_in second b)
count_when (Either first second) a b = capped (counted_in first a + counted_in second b)
count_when (EitherWay sense) a b =
    capped (a.products * counted_in sense b + a.complement * counted_in (opposite sense) b)

abbrev pub combined_counts : Op → Counts → Counts → Counts
combined_counts op a b = record {
  products = count_when (combination_of op) a b;
  complement = count_when (complement_of (combination_of op)) a b;
}

abbrev pub leaf_counts : ℕ → Counts
leaf_counts solid = record { products = 1; complement = 1 }
