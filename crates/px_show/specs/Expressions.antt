-- Expressions over names: their tokens, how they are written, how they are read, and why those of a `show` line are
-- bad. Clauses of public calls stand on it. Writing and reading agree: what is written is read, and what is read
-- was written (`expression_law` in src/show.rt). Clauses speak of what tokens are read to (`expression_of`), which
-- keeps a stack of parts. It need not be believed: by that law it is the one way to have an expression of which
-- `written` is the tokens, and `written` is what is to be believed.
use Rattle.std.specs.Prelude.{ℕ, ◌==◌, List, [], ◌∷◌, if◌then◌else◌, Option, Some, None, ◌≡◌, ◌+◌, max, ◌++◌}
use Rattle.std.specs.Prelude.{true, Bool, ◌&&◌, fold, pos, nat_le}
use Rattle.std.specs.List.{flat_map, list_any}
use Rattle.px_expr.specs.declared.node.Op.{Op}
use Rattle.px_text.specs.Text.{Words, is_name_byte, is_name}
use Rattle.px_show.specs.Judged.{judged}
use Rattle.px_show.specs.Versions.{is_sign, op_of}
use Rattle.px_show.specs.declared.scene_version.Version.{Version}
use Rattle.std.specs.Str.{bytes_eq}
use Rattle.px_show.specs.declared.fault.Cause.{Cause}
use Rattle.px_show.specs.declared.fault.LineFault.{LineFault}
use Rattle.std.specs.Option.{option_map, option_or}
use Rattle.px_expr.specs.declared.node.TheConstants.{MAX_LEAVES, MAX_NESTING}
use Rattle.px_expr.specs.Tree.{Tree}
use Rattle.px_show.specs.declared.fault.LimitKind.{LimitKind}
use Rattle.px_show.specs.declared.fault.LineFault.TheVariants as f
use Rattle.px_expr.specs.Tree as tree
use Rattle.px_show.specs.declared.fault.Cause.TheVariants as c
use Rattle.px_show.specs.declared.fault.LimitKind.TheVariants as kind

-- a name, a bracket, the sign of an operator, or anything else
pub data Token : Type 0 where
  name : List ℕ → Token
  opens : Token
  closes : Token
  sign : Op → Token
  other : Token

-- the sign of an operator, where the version has it
abbrev pub sign_in : Version → Option Op → Token
sign_in version None = other
sign_in version (Some op) = if is_sign version op then sign op else other

-- the token of a byte that is in no name: `(`, `)`, a sign of the version, or another one
abbrev pub mark : Version → ℕ → Token
mark version b = if b == 40 then opens else if b == 41 then closes else sign_in version (op_of b)

-- a byte of a name goes to the name that follows it, otherwise begins one
abbrev pub with_name_byte : ℕ → List Token → List Token
with_name_byte b [] = name (b ∷ []) ∷ []
with_name_byte b (name bs ∷ ts) = name (b ∷ bs) ∷ ts
with_name_byte b (t ∷ ts) = name (b ∷ []) ∷ t ∷ ts

-- the tokens of a word: each longest run of bytes of names is one, and each other byte
abbrev pub tokens_in : Version → List ℕ → List Token
tokens_in version [] = []
tokens_in version (b ∷ bs) =
    if is_name_byte b then with_name_byte b (tokens_in version bs) else mark version b ∷ tokens_in version bs

-- the tokens of words, one after another
abbrev pub tokens_of : Version → Words → List Token
tokens_of version ws = flat_map (tokens_in version) ws

-- an expression as it is written: a name, or an operator between two expressions
pub data Named : Type 0 where
  leaf : List ℕ → Named
  join : Op → Named → Named → Named

-- a name, or `(`, an expression, a sign, an expression and `)`
abbrev pub written : Named → List Token
written (leaf n) = name n ∷ []
written (join op left right) = opens ∷ (written left ++ sign op ∷ (written right ++ closes ∷ []))

-- each leaf is a name
abbrev pub has_names : Named → Bool
has_names (leaf n) = is_name n
has_names (join op left right) = has_names left && has_names right

-- each sign is one of the version's
abbrev pub has_signs : Version → Named → Bool
has_signs version (leaf n) = true
has_signs version (join op left right) =
    is_sign version op && has_signs version left && has_signs version right

-- how many leaves an expression has
abbrev pub leaves : Named → ℕ
leaves (leaf n) = 1
leaves (join op left right) = leaves left + leaves right

-- how many signs are above the deepest leaf
abbrev pub named_nesting : Named → ℕ
named_nesting (leaf n) = 0
named_nesting (join op left right) = max (named_nesting left) (named_nesting right) + 1

-- what tokens are read to: sides, which are whole expressions, and tokens that are in no side yet
pub data Part : Type 0 where
  side : Named → Part
  token : Token → Part

-- where a bracket, a side, a sign and a side stand last, a closing bracket makes one side of them
abbrev pub bracket_closed : List Part → List Part
bracket_closed (side right ∷ token (sign op) ∷ side left ∷ token opens ∷ before) = side (join op left right) ∷ before
bracket_closed before = token closes ∷ before

-- one more token: a name is a side by itself
abbrev pub with_token : List Part → Token → List Part
with_token before (name n) = (if is_name n then side (leaf n) else token (name n)) ∷ before
with_token before closes = bracket_closed before
with_token before opens = token opens ∷ before
with_token before (sign op) = token (sign op) ∷ before
with_token before other = token other ∷ before

-- the parts of tokens, the last one first
abbrev pub parts_of : List Token → List Part
parts_of ts = fold with_token [] ts

-- the expression, where the parts are one side alone
abbrev pub whole : List Part → Option Named
whole (side tree ∷ []) = Some tree
whole parts = None

-- the expression that tokens write, where one side is all that they are read to
abbrev pub expression_of : List Token → Option Named
expression_of ts = whole (parts_of ts)

-- the tokens are those of the tree, and its leaves are names
pub record IsExpressionOf (ts : List Token) (tree : Named) : Type 0 where
  pub text : written tree ≡ ts
  pub names : has_names tree ≡ true

-- whether a word is one of the names
abbrev pub is_among : Words → List ℕ → Bool
is_among names word = list_any (λ n. bytes_eq n word) names

-- the place of a name among the solids'
abbrev pub place_of : Words → List ℕ → ℕ
place_of [] word = 0
place_of (n ∷ ns) word = if bytes_eq n word then 0 else place_of ns word + 1

-- each name is a solid's
abbrev pub are_known : Words → Named → Bool
are_known names (leaf word) = is_among names word
are_known names (join op left right) = are_known names left && are_known names right

-- the expression over the places of its names
abbrev pub over_places : Words → Named → Tree
over_places names (leaf word) = tree.leaf (place_of names word)
over_places names (join op left right) = tree.join op (over_places names left) (over_places names right)

-- why an expression is bad: there is none, or a name is no solid's
abbrev pub cause_in : Words → Option Named → Option Cause
cause_in names None = Some c.BadExpression
cause_in names (Some tree) = if are_known names tree then None else Some c.UnknownName

-- a count past its limit
abbrev pub count_past : LimitKind → ℕ → ℕ → Option (LineFault LimitKind)
count_past kind limit found = if nat_le found limit then None else Some (f.Limit kind (pos found))

-- the leaves and then the nesting, both of the whole expression
abbrev pub counts_past : ℕ → ℕ → Option (LineFault LimitKind)
counts_past leaves named_nesting = option_or (count_past kind.Leaves MAX_LEAVES leaves)
    (count_past kind.Nesting MAX_NESTING named_nesting)

-- the first limit that an expression passes
abbrev pub limit_in : Option Named → Option (LineFault LimitKind)
limit_in None = None
limit_in (Some tree) = counts_past (leaves tree) (named_nesting tree)

-- why the words of a show line are bad
abbrev pub show_cause : Version → Words → Words → Option Cause
show_cause version names ws = cause_in names (expression_of (tokens_of version ws))

-- the first limit that their expression passes
abbrev pub show_limit : Version → Words → Option (LineFault LimitKind)
show_limit version ws = limit_in (expression_of (tokens_of version ws))

-- why the expression is bad: its form and its names first, and then its limits
abbrev pub show_fault : Version → Words → Words → Option (LineFault LimitKind)
show_fault version names ws = judged (show_cause version names ws) (show_limit version ws)

-- their expression, over the places of the solids
abbrev pub show_tree : Version → Words → Words → Option Tree
show_tree version names ws = option_map (over_places names) (expression_of (tokens_of version ws))
