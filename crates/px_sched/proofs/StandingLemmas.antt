-- A cursor gives the passes, or the steps, in their order.
use Rattle.px_num.proofs.Basics.{nat_tests, common_steps, ◌≡◌, ℕ, ◌+◌, ◌-◌, ◌^◌, ◌<◌, ◌≤◌, Bool, List, ◌∷◌, ◌++◌, drop}
use Rattle.px_num.proofs.Basics.{[], filter, get_or, length, slice_get, take, Some, None, ap, sym, ◌∙◌, arith}
use Rattle.px_num.proofs.Basics.{cond, length-append, unwrap_or, flat_map, drop_more, count_by-le-length, length-filter}
use Rattle.px_num.proofs.Basics.{slice_get-get_or, slice_get_past, get_or_append_left}
use Rattle.px_sched.proofs.Words.{behind_stage, from_stage, IsStage, layout_of, length-drop, length-take, Macro}
use Rattle.px_sched.proofs.Words.{operations, passes, plan_of, Product, SceneView, Stage, Step, step_of}
use Rattle.std.proofs.Math.Seq.{drop-append_seam}
use Rattle.std.proofs.lemmas.List.Filters.{length-filter_more}
use Rattle.px_sched.specs.declared.cursor.Cursor.{Cursor}
use Rattle.px_sched.specs.declared.group.Stage.TheVariants.{Start}
use Rattle.px_sched.specs.declared.step_cursor.StepCursor.{StepCursor}
use Rattle.px_sched.specs.Cursors.{Stands}
use Rattle.px_sched.specs.Passes.{steps}
use Rattle.px_sched.specs.StepCursors.{HasFewOthers, StandsAtStep, literals_in, opens_literal}
use Rattle.px_sched.proofs.FewLaws.{few_others}
use Rattle.px_sched.proofs.LawfulLaws.{passes_are}
use Rattle.px_macro.specs.declared.operation.Macro.TheVariants as m

-- a list from one element on
module _ {X : Type 0} (xs : List X) (k : ℕ) (x : X) (rest : List X) (left : drop k xs ≡ x ∷ rest) where
  head_below : k < length xs
  head_below = grind (arith, nat_tests, common_steps, left, length-drop)

  split : get_or xs k x ∷ drop (k + 1) xs ≡ x ∷ rest
  split = sym (drop_more xs k x head_below) ∙ left

  head_is : get_or xs k x ≡ x
  head_is = ap (λ l. get_or l 0 x) split

  head_found : Some x ≡ slice_get xs k
  head_found = sym (slice_get-get_or xs k x head_below ∙ ap (λ y. Some y) head_is)

  tail_is : drop (k + 1) xs ≡ rest
  tail_is = ap (drop 1) split

  filtered_more : (p : X → Bool) → length (filter p (take (k + 1) xs)) ≡ length (filter p (take k xs)) + cond (p x) 1 0
  filtered_more p = grind (arith, length-filter_more, head_below, cond, head_is)

ended : {X : Type 0} (xs : List X) (k : ℕ) → drop k xs ≡ [] → length xs ≤ k
ended xs k none = omega (arith, ap length none, length-drop k xs)

module _ (scene : SceneView) (products : List Product) where
  here_from : (st : Stage) (s : Step) → Some s ≡ step_of st → from_stage scene products st ≡ s
      ∷ behind_stage scene products st
  here_from x s here = grind (arith, unwrap_or)

  pub others_here : (st : Stage) (s : Step) → Some s ≡ step_of st → IsStage scene products st → HasFewOthers s
  others_here x s here is = grind (arith, unwrap_or, few_others)

module _ (scene : SceneView) where
  abbrev behind : Stage → List Step
  behind st = behind_stage scene (plan_of scene) st

  abbrev ops : Step → List Macro
  ops step = operations scene (layout_of scene) step

  -- the steps from a cursor on
  module _ (c : StepCursor) (s : Step) (stands : StandsAtStep scene c) (here : Some s ≡ step_of c.stage) where
    left : drop c.given (steps scene) ≡ s ∷ behind c.stage
    left = stands.left ∙ here_from scene (plan_of scene) c.stage s here

    pub step_found : Some s ≡ slice_get (steps scene) c.given
    step_found = head_found (steps scene) c.given s (behind c.stage) left

    pub few_literals : c.literals < 2 ^ 64 - 1
    few_literals = grind (arith, head_below, left, stands.few, length-filter, count_by-le-length, length-take)

    pub literals_more : c.literals + cond (opens_literal s) 1 0 ≡ literals_in (take (c.given + 1) (steps scene))
    literals_more = grind (arith, left, cond, filtered_more)

    pub stands_behind : (d : StepCursor) → d.given ≡ c.given + 1
        → d.literals ≡ c.literals + cond (opens_literal s) 1 0
        → behind c.stage ≡ from_stage scene (plan_of scene) d.stage → IsStage scene (plan_of scene) d.stage
        → StandsAtStep scene d
    stands_behind d given literals next is = grind (arith, left, tail_is, cond, filtered_more)

  pub none_found : (c : StepCursor) → StandsAtStep scene c → None ≡ step_of c.stage
      → None ≡ slice_get (steps scene) c.given
  none_found c stands here = grind (arith, slice_get_past, ended)

  abbrev ops_from : Stage → List Macro
  ops_from st = flat_map ops (from_stage scene (plan_of scene) st)

  -- the operations from a cursor on
  module _ (c : Cursor) (s : Step) (stands : Stands scene c) (here : Some s ≡ step_of c.stage) where
    abbrev rest : List Macro
    rest = flat_map ops (behind c.stage)

    pub inside : c.at < length (ops s)
    inside = grind (arith, stands.place)

    given_left : drop c.given (passes scene) ≡ get_or (ops s) c.at m.All ∷ drop (c.at + 1) (ops s ++ rest)
    given_left = stands.left ∙ ap (λ steps. drop c.at (flat_map ops steps))
        (here_from scene (plan_of scene) c.stage s here)
        ∙ drop_more (ops s ++ rest) c.at m.All (omega (arith, inside, length-append (ops s) rest))
        ∙ ap (λ o. o ∷ drop (c.at + 1) (ops s ++ rest)) (get_or_append_left (ops s) rest m.All c.at inside)

    below : c.given < length (passes scene)
    below = head_below (passes scene) c.given _ _ given_left

    pub few_given : c.given < 2 ^ 64 - 1
    few_given = omega (arith, below, stands.few)

    pub operation_found : (one : Macro) → one ≡ get_or (ops s) c.at m.All → Some one ≡ slice_get (passes scene) c.given
    operation_found one is = ap (λ o. Some o) is ∙ head_found (passes scene) c.given _ _ given_left

    more_left : drop (c.given + 1) (passes scene) ≡ drop (c.at + 1) (ops s ++ rest)
    more_left = tail_is (passes scene) c.given _ _ given_left

    pub stands_along : (d : Cursor) → d.given ≡ c.given + 1 → d.at ≡ c.at + 1 → d.stage ≡ c.stage
        → c.at + 1 < length (ops s) → Stands scene d
    stands_along d given at stage more =
        let same : ops_from d.stage ≡ ops s ++ rest =
        ap ops_from stage ∙ ap (flat_map ops) (here_from scene (plan_of scene) c.stage s here) in
        record {
          stage = rw stage stands.stage;
          place = rw (stage, ← here, at) more;
          left = rw (given, at, same) more_left;
          within = omega (arith, given, few_given, below);
          few = stands.few;
        }

    pub stands_onward : (d : Cursor) → d.given ≡ c.given + 1 → d.at ≡ 0 → length (ops s) ≡ c.at + 1
        → behind c.stage ≡ from_stage scene (plan_of scene) d.stage → IsStage scene (plan_of scene) d.stage
        → Stands scene d
    stands_onward d given at last next is = grind (arith, left, more_left, drop-append_seam, few_given, below)

  pub all_given : (c : Cursor) → Stands scene c → None ≡ step_of c.stage → c.given ≡ length (passes scene)
  all_given c stands here = grind (arith, left, ended)

  pub none_left : (c : Cursor) → Stands scene c → None ≡ step_of c.stage → None ≡ slice_get (passes scene) c.given
  none_left c stands here = sym (slice_get_past (passes scene) c.given (omega (arith, all_given c stands here)))

-- each has an operation, so there are no more steps than operations
some_each : {X Y : Type 0} (f : X → List Y) → ((x : X) → 0 < length (f x)) → (xs : List X)
    → length xs ≤ length (flat_map f xs)
some_each f some [] = omega arith
some_each f some (x ∷ xs) = omega (arith, some x, some_each f some xs, length-append (f x) (flat_map f xs))

pub first_stands : (scene : SceneView) → length (passes scene) < 2 ^ 64
    → StandsAtStep scene (record { given = 0; literals = 0; stage = Start })
first_stands scene few = grind (arith, some_each, passes_are)
