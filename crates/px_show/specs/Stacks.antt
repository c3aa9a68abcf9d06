-- What a stack keeps of the parts of tokens: their kinds, and the steps that build their sides. Only proofs and
-- private functions stand on it.
use Rattle.std.specs.Prelude.{◌≡◌, ℕ, ◌+◌, ◌-◌, ◌^◌, min, max, List, [], ◌∷◌, ◌++◌, Option, Some, None, Bool}
use Rattle.std.specs.Prelude.{true, false, nat_le, map, reverse}
use Rattle.px_expr.specs.declared.node.Op.{Op}
use Rattle.px_expr.specs.Tree.{Tree, leaf, join}
use Rattle.px_expr.specs.Shapes.{joined}
use Rattle.px_text.specs.Text.{Words}
use Rattle.px_show.specs.Expressions as t
use Rattle.px_show.specs.Expressions.{named_nesting, side, token, over_places}
use Rattle.px_show.specs.declared.token.Token.{Token}
use Rattle.px_show.specs.declared.token.Token.TheVariants as d
use Rattle.px_show.specs.declared.stack.Part.{Part}
use Rattle.px_show.specs.declared.stack.Part.TheVariants as p
use Rattle.px_show.specs.declared.stack.Stack.{Stack}
use Rattle.px_show.specs.declared.stack.Step.{Step}
use Rattle.px_show.specs.declared.stack.Step.TheVariants as s

-- a token of the code, as the rules name it
abbrev pub token_of : Token → t.Token
token_of (d.Name n) = t.name n.now
token_of d.Opens = t.opens
token_of d.Closes = t.closes
token_of (d.Sign op) = t.sign op
token_of d.Other = t.other

-- what the stack keeps of a part
abbrev pub stack_part : t.Part → Part
stack_part (side tree) = p.Side (named_nesting tree)
stack_part (token (t.name n)) = p.Other
stack_part (token t.opens) = p.Opens
stack_part (token t.closes) = p.Other
stack_part (token (t.sign op)) = p.Sign op
stack_part (token t.other) = p.Other

-- the sign and the nesting of what a bracket closes; a nesting stops at the greatest number
abbrev pub bracketed : Part → Part → Part → Part → Option (Op × ℕ)
bracketed p.Opens (p.Side left) (p.Sign op) (p.Side right) = Some (op, min (max left right + 1) (2 ^ 64 - 1))
bracketed bracket left sign right = None

-- of parts, the last of which stands first
abbrev pub closing : List Part → Option (Op × ℕ)
closing (right ∷ sign ∷ left ∷ bracket ∷ before) = bracketed bracket left sign right
closing parts = None

-- the nesting of a side
abbrev pub nesting_in : Part → Option ℕ
nesting_in (p.Side n) = Some n
nesting_in part = None

-- of the part that stands alone
abbrev pub nesting_of : List Part → Option ℕ
nesting_of (part ∷ []) = nesting_in part
nesting_of parts = None

-- how a tree is built: each side before what joins them
abbrev pub tree_steps : Tree → List Step
tree_steps (leaf place) = s.Leaf place ∷ []
tree_steps (join op left right) = (tree_steps left ++ tree_steps right) ++ s.Join op ∷ []

-- the trees that wait after a step, the last one first
abbrev pub trees_built : List Tree → Step → List Tree
trees_built trees (s.Leaf place) = leaf place ∷ trees
trees_built trees (s.Join op) = joined join op trees

-- the steps of the sides among the parts, the last of which stands first
abbrev pub all_steps : Words → List t.Part → List Step
all_steps names [] = []
all_steps names (side tree ∷ before) = all_steps names before ++ tree_steps (over_places names tree)
all_steps names (token t ∷ before) = all_steps names before

abbrev pub is_leaf : Step → Bool
is_leaf (s.Leaf place) = true
is_leaf (s.Join op) = false

-- a leaf that is none of so many solids
abbrev pub is_unknown : ℕ → Step → Bool
is_unknown count (s.Leaf place) = nat_le count place
is_unknown count (s.Join op) = false

-- the kinds of the parts that were read, the last one on top, and the steps of their sides
pub record AreKept (names : Words) (parts : List Part) (steps : List Step) (read : List t.Part) : Type 0 where
  pub kinds : reverse parts ≡ map stack_part read
  pub order : steps ≡ all_steps names read

-- what a stack holds of the parts that were read
abbrev pub IsStackOf : Words → Stack → List t.Part → Type 0
IsStackOf names stack read = AreKept names stack.parts.items stack.steps.items read
