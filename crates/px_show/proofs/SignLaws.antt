-- The signs of operators: the only lemmas that depend on the operators.
use Rattle.px_num.proofs.Basics.{arith, ◌≡◌, ℕ, ◌+◌, true, false, refl, list_any, list_any-append}
use Rattle.px_show.proofs.Words.{is_name_byte, mark, nodes_behind, Op, sign, size, Tree, Version}
use Rattle.px_expr.specs.Tree.{leaf, join}
use Rattle.px_text.specs.Written.{is_plain_byte}
use Rattle.px_show.specs.Versions.{sign_byte, is_sign, has_difference}
use Rattle.px_show.specs.Differences.{is_difference}

-- a sign is read as its operator's, where the version has it
pub sign_marked : (version : Version) (op : Op) → is_sign version op ≡ true → mark version (sign_byte op) ≡ sign op
sign_marked version x is = grind arith

-- a sign is a byte of a word, and of no name
pub sign_plain : (op : Op) → is_plain_byte (sign_byte op) ≡ true
sign_plain x = grind arith

pub sign_no_name : (op : Op) → is_name_byte (sign_byte op) ≡ false
sign_no_name x = grind arith

pub difference_among : (others : ℕ) (tree : Tree) → list_any is_difference (nodes_behind others tree)
    ≡ has_difference tree
difference_among others (leaf solid) = refl
difference_among others (join op left right) =
    grind (arith, list_any-append, difference_among others left, difference_among (others + size left) right)
