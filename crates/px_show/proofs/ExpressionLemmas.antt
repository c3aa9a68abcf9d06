-- What is written is read, and what is read was written.
use Rattle.px_num.proofs.Basics.{arith, ◌≡◌, List, [], ◌∷◌, ◌++◌, Bool, true, ◌&&◌, Some, fold, refl, ap, sym, ◌∙◌}
use Rattle.px_num.proofs.Basics.{append_assoc, append-nil, fold-append}
use Rattle.px_show.proofs.Words.{both, bracket_closed, closes, expression_of, has_names, IsExpressionOf, Named, opens}
use Rattle.px_show.proofs.Words.{Part, parts_of, side, sign, token, Token, whole, with_token, written}
use Rattle.px_show.specs.Expressions.{leaf, join}

-- what is written becomes one side
pub reads : (tree : Named) (before : List Part) → has_names tree ≡ true
    → fold with_token before (written tree) ≡ side tree ∷ before
reads (leaf n) before names = rw names refl
reads (join op left right) before names =
    grind (
      arith,
      fold-append,
      reads left (token opens ∷ before) (both (has_names left) (has_names right) names).0,
      reads right (token (sign op) ∷ side left ∷ token opens ∷ before)
          (both (has_names left) (has_names right) names).1,
    )

-- the tokens of parts, the last of which stands first
abbrev text : List Part → List Token
text [] = []
text (side tree ∷ before) = text before ++ written tree
text (token t ∷ before) = text before ++ t ∷ []

text_closed : (parts : List Part) → text (bracket_closed parts) ≡ text parts ++ closes ∷ []
text_closed x = grind (arith, append_assoc)

text_put : (parts : List Part) (t : Token) → text (with_token parts t) ≡ text parts ++ t ∷ []
text_put parts x = grind (arith, text_closed)

text_all : (parts : List Part) (ts : List Token) → text (fold with_token parts ts) ≡ text parts ++ ts
text_all parts [] = sym (append-nil (text parts))
text_all parts (t ∷ ts) = grind (arith, text_put, append_assoc, text_all (with_token parts t) ts)

-- all names in the sides are names
abbrev all_named : List Part → Bool
all_named [] = true
all_named (side tree ∷ before) = has_names tree && all_named before
all_named (token t ∷ before) = all_named before

named_closed : (parts : List Part) → all_named (bracket_closed parts) ≡ all_named parts
named_closed x = grind arith

named_put : (parts : List Part) (t : Token) → all_named (with_token parts t) ≡ all_named parts
named_put parts x = grind (arith, named_closed)

named_all : (parts : List Part) (ts : List Token) → all_named (fold with_token parts ts) ≡ all_named parts
named_all parts [] = refl
named_all parts (t ∷ ts) = named_all (with_token parts t) ts ∙ named_put parts t

alone : (parts : List Part) (tree : Named) → whole parts ≡ Some tree → parts ≡ side tree ∷ []
alone x tree e = grind arith

-- what is read was written
pub was_written : (ts : List Token) (tree : Named) → expression_of ts ≡ Some tree → IsExpressionOf ts tree
was_written ts tree e =
    let one = alone (parts_of ts) tree e
    in record {
      text = sym (ap text one) ∙ text_all [] ts;
      names = (both (has_names tree) true (sym (ap all_named one) ∙ named_all [] ts)).0;
    }
