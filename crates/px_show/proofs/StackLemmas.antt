-- What the parts and the steps of a stack say of its expression.
use Rattle.px_num.proofs.Basics.{◌≡◌, ℕ, ◌+◌, ◌-◌, ◌<◌, ◌≤◌, ◌^◌, min, max, List, [], ◌∷◌, ◌++◌, length, take, drop}
use Rattle.px_num.proofs.Basics.{map, reverse, Bool, true, false, ◌&&◌, ◌||◌, not, if◌then◌else◌, Option, Some, None}
use Rattle.px_num.proofs.Basics.{unwrap_or, Result, OnOk, refl, ap, sym, ◌∙◌, arith, append_assoc, length-append}
use Rattle.px_num.proofs.Basics.{nat_le, list_any, count_by, reverse-append, length-reverse, take-append-drop}
use Rattle.px_num.proofs.Basics.{list_any-append, sum_by-append, count_by-le-length}
use Rattle.px_show.proofs.Words.{all_steps, are_known, AreKept, bracket_closed, bracketed, cause_in, closing}
use Rattle.px_show.proofs.Words.{counts_past, is_among, is_leaf, is_unknown, judged, leaves, length-drop, limit_in}
use Rattle.px_show.proofs.Words.{LineFault, Named, named_nesting, nesting_of, Op, opens, other, over_places, Part}
use Rattle.px_show.proofs.Words.{place_of, side, sign, stack_part, Step, token, tree_steps, whole, Words}
use Rattle.std.proofs.Math.Seq.{drop-append_seam}
use Rattle.px_num.proofs.TruthLaws.{or_false}
use Rattle.px_show.specs.Expressions.{leaf, join}
use Rattle.px_show.specs.declared.fault.LimitKind.{LimitKind}
use Rattle.px_show.specs.declared.stack.Part.{Part as Kind}
use Rattle.px_show.specs.declared.fault.Cause.TheVariants as cause
use Rattle.px_show.specs.declared.fault.LineFault.TheVariants as fault
use Rattle.px_show.specs.declared.stack.Part.TheVariants as p
use Rattle.px_show.specs.declared.stack.Step.TheVariants as s

-- a tree has more steps than it is nested deep
nesting_below : (names : Words) (tree : Named) → named_nesting tree < length (tree_steps (over_places names tree))
nesting_below names (leaf n) = omega arith
nesting_below names (join op left right) =
    grind (arith, length-append {A = Step}, nesting_below names left, nesting_below names right)

leaves_counted : (names : Words) (tree : Named) → count_by is_leaf (tree_steps (over_places names tree)) ≡ leaves tree
leaves_counted names (leaf n) = refl
leaves_counted names (join op left right) =
    grind (arith, sum_by-append {X = Step}, leaves_counted names left, leaves_counted names right)

pub place_unknown : (names : Words) (n : List ℕ) → nat_le (length names) (place_of names n) ≡ not (is_among names n)
place_unknown [] n = refl
place_unknown (m ∷ ms) n = grind (arith, place_unknown ms n)

either : (a b : Bool) → not a || not b ≡ not (a && b)
either true b = refl
either false b = refl

some_unknown : (names : Words) (tree : Named)
    → list_any (is_unknown (length names)) (tree_steps (over_places names tree)) ≡ not (are_known names tree)
some_unknown names (leaf n) = or_false _ ∙ place_unknown names n
some_unknown names (join op left right) =
    grind (arith, list_any-append, or_false, either, some_unknown names left, some_unknown names right)

reverse_take : {X : Type 0} (xs : List X) (k : ℕ) → k ≤ length xs → reverse (take (length xs - k) xs)
    ≡ drop k (reverse xs)
reverse_take xs k le =
    let m = length xs - k
    in let size : length (reverse (drop m xs)) ≡ k = omega (arith, length-reverse (drop m xs), length-drop m xs)
    in let cut : reverse xs ≡ reverse (drop m xs) ++ reverse (take m xs) =
    ap reverse (sym (take-append-drop m xs)) ∙ reverse-append (take m xs) (drop m xs)
    in sym (drop-append_seam (reverse (drop m xs)) (reverse (take m xs))) ∙ rw (size, ← cut) refl

-- what a bracket closes among the parts
record IsClosing (read : List Part) (op : Op) (n : ℕ) : Type 0 where
  left : Named
  right : Named
  before : List Part
  shape : read ≡ side right ∷ token (sign op) ∷ side left ∷ token opens ∷ before
  is : n ≡ min (max (named_nesting left) (named_nesting right) + 1) (2 ^ 64 - 1)

bracket_shape : (a b c d : Part) (before : List Part) (op : Op) (n : ℕ) → Some (op, n) ≡ bracketed (stack_part a)
    (stack_part b) (stack_part c) (stack_part d) → IsClosing (d ∷ c ∷ b ∷ a ∷ before) op n
bracket_shape x y z u before op n e = grind (arith, unwrap_or)

closing_shape : (read : List Part) (op : Op) (n : ℕ) → Some (op, n) ≡ closing (map stack_part read)
    → IsClosing read op n
closing_shape (d ∷ c ∷ b ∷ a ∷ before) op n e = bracket_shape a b c d before op n e
closing_shape [] op n e = absurd (cc)
closing_shape (d ∷ []) op n e = absurd (cc)
closing_shape (d ∷ c ∷ []) op n e = absurd (cc)
closing_shape (d ∷ c ∷ b ∷ []) op n e = absurd (cc)

-- a bracket that closes two sides
pub closes_sides : (names : Words) (parts new_parts : List Kind) (steps new_steps : List Step) (read : List Part)
    (op : Op) (n : ℕ) → AreKept names parts steps read → Some (op, n) ≡ closing (reverse parts) → 4 ≤ length parts
    → length steps < 2 ^ 63 → new_parts ≡ take (length parts - 4) parts ++ p.Side n ∷ []
    → new_steps ≡ steps ++ s.Join op ∷ [] → AreKept names new_parts new_steps (bracket_closed read)
closes_sides names parts new_parts steps new_steps read op n is e four few put more =
    let found = closing_shape read op n (rw is.kinds at e)
    in rw found.shape
    (grind (arith, length-append, nesting_below, reverse-append, reverse_take, append_assoc))

-- the one side that is read, with no other part
record IsWhole (names : Words) (parts : List Kind) (steps : List Step) (read : List Part) (n : ℕ) : Type 0 where
  tree : Named
  shape : read ≡ side tree ∷ []
  nested : named_nesting tree ≡ n
  order : steps ≡ tree_steps (over_places names tree)

whole_stack : (names : Words) (parts : List Kind) (steps : List Step) (read : List Part) (n : ℕ)
    → Some n ≡ nesting_of (reverse parts) → AreKept names parts steps read → IsWhole names parts steps read n
whole_stack names parts steps read n e is = by_parts read is.order (e ∙ ap nesting_of is.kinds)
  where
    by_parts : (read : List Part) → steps ≡ all_steps names read → Some n ≡ nesting_of (map stack_part read)
        → IsWhole names parts steps read n
    by_parts (side tree ∷ []) order e = record { tree = tree; shape = refl; nested = cc; order = order }
    by_parts [] order e = absurd (cc)
    by_parts (a ∷ b ∷ before) order e = absurd (cc)
    by_parts (token other ∷ []) order e = absurd (cc)
    by_parts parts order e = absurd (cc)

judged_by : (limit : Option (LineFault LimitKind)) (test : Bool)
    → judged (if test then None else Some cause.UnknownName) limit
    ≡ (if not test then Some (fault.Malformed cause.UnknownName) else limit)
judged_by limit true = refl
judged_by limit false = refl

-- the fault of a whole expression, by its steps
pub whole_fault : (names : Words) (parts : List Kind) (steps : List Step) (read : List Part) (n count : ℕ)
    (unknown : Bool)
    → Some n ≡ nesting_of (reverse parts) → AreKept names parts steps read → length names ≡ count
    → unknown ≡ list_any (is_unknown count) steps
    → (if unknown then Some (fault.Malformed cause.UnknownName) else counts_past (count_by is_leaf steps) n)
    ≡ judged (cause_in names (whole read)) (limit_in (whole read))
whole_fault names parts steps read n count unknown e is same test =
    grind (arith, whole_stack, some_unknown, leaves_counted, judged_by)

pub few_leaves : (steps : List Step) (counted : ℕ) (slice : List Step) → counted ≡ count_by is_leaf slice
    → slice ≡ steps → length steps < 2 ^ 63 → counted < 2 ^ 63
few_leaves steps counted slice e is few = omega (arith, count_by-le-length is_leaf slice, ap length is)

pub few_counted : (names : Words) (parts : List Kind) (steps : List Step) (read : List Part) (n : ℕ)
    → Some n ≡ nesting_of (reverse parts) → AreKept names parts steps read → n < length steps
few_counted names parts steps read n e is =
    let found = whole_stack names parts steps read n e is
    in rw found.order (rw found.nested at (nesting_below names found.tree))

pub both_ok : {T E : Type 0} {P Q R : Type 0} (r : Result T E) → OnOk r P → OnOk r Q → (P → Q → R) → OnOk r R
both_ok x p q f = grind arith
