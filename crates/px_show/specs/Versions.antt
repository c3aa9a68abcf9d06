-- The versions of scene texts, and the signs of operators: the words that name each version, what it has, the byte of
-- each sign, and which signs a version has. Clauses of public calls stand on it.
use Rattle.std.specs.Prelude.{ℕ, List, [], ◌∷◌, codes, Bool, true, false, if◌then◌else◌, Option, Some, None}
use Rattle.std.specs.Prelude.{◌==◌, ◌||◌, not}
use Rattle.std.specs.Str.{bytes_eq}
use Rattle.px_text.specs.Text.{Words}
use Rattle.px_show.specs.declared.scene_version.Version.{Version}
use Rattle.px_expr.specs.declared.node.Op.{Op}
use Rattle.px_expr.specs.Tree.{Tree}
use Rattle.px_show.specs.declared.scene_version.Version.TheVariants as v
use Rattle.px_expr.specs.declared.node.Op.TheVariants as o
use Rattle.px_expr.specs.Tree as tree

abbrev pub version_word : Version → List ℕ
version_word v.One = codes "1"
version_word v.Two = codes "2"
version_word v.Three = codes "3"

-- the version that a word names
abbrev pub version_named : List ℕ → Option Version
version_named w =
    if bytes_eq w (codes "1") then Some v.One
    else if bytes_eq w (codes "2") then Some v.Two
    else if bytes_eq w (codes "3") then Some v.Three
    else None

-- the version that the words after `pxscene` name
abbrev pub version_of : Words → Option Version
version_of (w ∷ []) = version_named w
version_of ws = None

-- whether `^` is a sign
abbrev pub has_differ : Version → Bool
has_differ v.One = false
has_differ v.Two = true
has_differ v.Three = true

-- `+`, `*`, `-` and `^`
abbrev pub sign_byte : Op → ℕ
sign_byte o.Union = 43
sign_byte o.Meet = 42
sign_byte o.Minus = 45
sign_byte o.Differ = 94

-- the operator of whose sign a byte is
abbrev pub op_of : ℕ → Option Op
op_of b =
    if b == 43 then Some o.Union
    else if b == 42 then Some o.Meet
    else if b == 45 then Some o.Minus
    else if b == 94 then Some o.Differ
    else None

-- whether the sign is `^`
abbrev pub is_differ : Op → Bool
is_differ o.Union = false
is_differ o.Meet = false
is_differ o.Minus = false
is_differ o.Differ = true

-- whether a version has an operator's sign
abbrev pub is_sign : Version → Op → Bool
is_sign version op = not (is_differ op) || has_differ version

-- whether a `^` is in an expression
abbrev pub has_difference : Tree → Bool
has_difference (tree.leaf solid) = false
has_difference (tree.join op left right) = is_differ op || has_difference left || has_difference right
