-- Printing an expression from its last node to its first.
use Rattle.px_num.proofs.Basics.{◌≡◌, ℕ, ◌+◌, ◌<◌, ◌≤◌, List, [], ◌∷◌, ◌++◌, length, get_or, take, reverse, replicate}
use Rattle.px_num.proofs.Basics.{ap, sym, ◌∙◌, arith, append_assoc, length-append, subst, zero, suc, All}
use Rattle.px_num.proofs.Basics.{length-reverse, get_or-append_seam, take-append_seam, fold-append}
use Rattle.px_show.proofs.Words.{CanPlace, IsLeafBelow, joined, named_by, node_shape, Op, placed, printed, put}
use Rattle.px_show.proofs.Words.{replicate-append-replicate, Tree, trees_after, Words}
use Rattle.px_expr.specs.declared.node.Node.{Node}
use Rattle.px_expr.specs.declared.node.Shape.{Shape}
use Rattle.px_expr.specs.Tree.{leaf, join}
use Rattle.px_show.specs.Gaps.{spread, split_gap, first_gap, other_gaps, gaps_before, text_of}
use Rattle.px_show.specs.declared.print.Gap.{Gap}
use Rattle.px_expr.specs.declared.node.Shape.TheVariants as h

one_bracket_more : (n : ℕ) → replicate {A = ℕ} (n + 1) 40 ≡ replicate n 40 ++ 40 ∷ []
one_bracket_more n = sym (replicate-append-replicate n 1 40)

-- a bracket and two gaps in place of one
split_text : (names : Words) (op : Op) (trees : List Tree) (gap : Gap) (gaps : List Gap) (back : List ℕ)
    → 2 ≤ length trees
    → spread names trees (split_gap op (gap ∷ gaps)) ++ 41 ∷ back ≡ spread names (joined join op trees)
    (gap ∷ gaps) ++ back
split_text names op x gap gaps back two = grind (arith, one_bracket_more, append_assoc)

joined_count : (op : Op) (trees : List Tree) → 2 ≤ length trees → length (joined join op trees) + 1 ≡ length trees
joined_count op x two = grind arith

-- what is kept when an operator is printed
record IsSplit (names : Words) (op : Op) (trees : List Tree) (gaps : List Gap) (back : List ℕ) : Type 0 where
  text : spread names trees (split_gap op gaps) ++ 41 ∷ back ≡ spread names (joined join op trees) gaps ++ back
  count : length (split_gap op gaps) ≡ length trees

split : (names : Words) (op : Op) (trees : List Tree) (gaps : List Gap) (back : List ℕ) → 2 ≤ length trees
    → length gaps ≡ length (joined join op trees) → IsSplit names op trees gaps back
split names op trees x back two count = grind (arith, joined_count, split_text)

leaf_text : (names : Words) (place : ℕ) (trees : List Tree) (gaps : List Gap) (back : List ℕ)
    → length gaps ≡ length trees + 1
    → spread names trees (other_gaps gaps) ++ ((first_gap gaps ++ get_or names place []) ++ back)
    ≡ spread names (leaf place ∷ trees) gaps ++ back
leaf_text names place trees x back count = grind (arith, append_assoc)

leaf_count : (trees : List Tree) (gaps : List Gap) → length gaps ≡ length trees + 1
    → length (other_gaps gaps) ≡ length trees
leaf_count trees x count = grind arith

same_text : (names : Words) (shape : Shape) (trees : List Tree) (gaps : List Gap) (back : List ℕ)
    → length gaps ≡ length (put leaf join trees shape) → CanPlace (length trees) shape
    → spread names trees (gaps_before shape gaps) ++ (text_of names shape gaps ++ back)
    ≡ spread names (put leaf join trees shape) gaps ++ back
same_text names x trees gaps back count can = grind (arith, leaf_text, split)

same_count : (names : Words) (shape : Shape) (trees : List Tree) (gaps : List Gap)
    → length gaps ≡ length (put leaf join trees shape) → CanPlace (length trees) shape
    → length (gaps_before shape gaps) ≡ length trees
same_count names x trees gaps count can = grind (arith, leaf_count, split)

abbrev AreFew : ℕ → List Gap → Type 0
AreFew left gaps = All (λ g. g.opens + left ≤ 1023) gaps

split_few : (op : Op) (left : ℕ) (gaps : List Gap) → AreFew (left + 1) gaps → AreFew left (split_gap op gaps)
split_few op left [] few k d lt = absurd (omega arith)
split_few op left (gap ∷ gaps) few zero d lt = let first = few 0 d (omega arith) in omega arith
split_few op left (gap ∷ gaps) few (suc zero) d lt = let first = few 0 d (omega arith) in omega arith
split_few op left (gap ∷ gaps) few (suc (suc k)) d lt = let here = few (suc k) d (omega arith) in omega arith

other_few : (left : ℕ) (gaps : List Gap) → AreFew (left + 1) gaps → AreFew left (other_gaps gaps)
other_few left [] few k d lt = absurd (omega arith)
other_few left (gap ∷ gaps) few k d lt = let here = few (suc k) d (omega arith) in omega arith

same_few : (shape : Shape) (left : ℕ) (gaps : List Gap) → AreFew (left + 1) gaps → AreFew left (gaps_before shape gaps)
same_few (h.Leaf place) left gaps few = other_few left gaps few
same_few (h.Join op l r) left gaps few = split_few op left gaps few

-- printed back to the first of some nodes
pub record IsPrintedTo (names : Words) (tree : Tree) (nodes rest : List Node) (gaps : List Gap)
    (back : List ℕ) : Type 0 where
  pub after : List Node
  pub front : nodes ≡ rest ++ after
  pub count : length gaps ≡ length (trees_after rest)
  pub few : All (λ g. g.opens + length rest ≤ 1023) gaps
  pub text : spread names (trees_after rest) gaps ++ back ≡ printed (named_by names tree)

parted : (before after rest nodes : List Node) (node : Node) → nodes ≡ rest ++ after → rest ≡ before ++ node ∷ []
    → nodes ≡ before ++ node ∷ after
parted before after rest nodes node is last = is ∙ ap (λ ns. ns ++ after) last ∙ append_assoc before (node ∷ []) after

is_below : (before after nodes : List Node) (node : Node) → nodes ≡ before ++ node ∷ after
    → length before < length nodes
is_below before after nodes node is = omega (arith, ap length is, length-append before (node ∷ after))

-- what is known of each node, of the last one of a front
pub leaf_here : (count : ℕ) (nodes all rest before after : List Node) (node : Node) → all ≡ nodes
    → nodes ≡ rest ++ after → rest ≡ before ++ node ∷ []
    → All (λ n. IsLeafBelow count (node_shape n)) all → IsLeafBelow count (node_shape node)
leaf_here count nodes all rest before after node same is last each =
    let part = same ∙ parted before after rest nodes node is last
    in subst (λ (m : Node). IsLeafBelow count (node_shape m))
    (ap (λ ns. get_or ns (length before) node) part ∙ get_or-append_seam before node after node)
    (each (length before) node (is_below before after all node part))

pub place_here : (nodes all rest before after : List Node) (node : Node) → all ≡ nodes → nodes ≡ rest ++ after
    → rest ≡ before ++ node ∷ []
    → ((i : ℕ) (any : Node) → i < length all → CanPlace (length (trees_after (take i all)))
    (node_shape (get_or all i any)))
    → CanPlace (length (trees_after before)) (node_shape node)
place_here nodes all rest before after node same is last each =
    let part = same ∙ parted before after rest nodes node is last
    in let here = each (length before) node (is_below before after all node part)
    in let same_node = ap (λ ns. get_or ns (length before) node) part ∙ get_or-append_seam before node after node
    in let same_front = ap (take (length before)) part ∙ take-append_seam before (node ∷ after)
    in grind arith

some_join : (op : Op) (trees : List Tree) → 2 ≤ length trees → 0 < length (joined join op trees)
some_join op trees two = omega (arith, joined_count op trees two)

some_wait : (shape : Shape) (trees : List Tree) → CanPlace (length trees) shape → 0 < length (put leaf join trees shape)
some_wait x trees can = grind (arith, some_join)

-- a gap is left for each node
pub some_gap : (rest before : List Node) (node : Node) (gaps : List Gap)
    → length (reverse gaps) ≡ length (trees_after rest) → rest ≡ before ++ node ∷ []
    → CanPlace (length (trees_after before)) (node_shape node) → 0 < length gaps
some_gap rest before node gaps count last can = grind (arith, fold-append, length-reverse, some_wait)

pub steps : (names : Words) (tree : Tree) (nodes rest before : List Node) (node : Node) (gaps next : List Gap)
    (back text : List ℕ) → IsPrintedTo names tree nodes rest gaps back → rest ≡ before ++ node ∷ []
    → length before + 1 ≡ length rest → CanPlace (length (trees_after before)) (node_shape node)
    → next ≡ gaps_before (node_shape node) gaps → text ≡ text_of names (node_shape node) gaps ++ back
    → IsPrintedTo names tree nodes before next text
steps names tree nodes rest before node gaps next back text is last shorter can kept more =
    let waiting : trees_after rest ≡ placed (trees_after before) node = grind (arith, fold-append)
    in let counted : length gaps ≡ length (placed (trees_after before) node) = is.count ∙ ap length waiting
    in record {
      after = node ∷ is.after;
      front = is.front ∙ ap (λ ns. ns ++ is.after) last ∙ append_assoc before (node ∷ []) is.after;
      count = ap length kept ∙ same_count names (node_shape node) (trees_after before) gaps counted can;
      few = rw kept (same_few (node_shape node) (length before) gaps (rw shorter is.few));
      text = rw (kept, more) (same_text names (node_shape node) (trees_after before) gaps back counted can
          ∙ ap (λ ts. spread names ts gaps ++ back) (sym waiting) ∙ is.text);
    }
