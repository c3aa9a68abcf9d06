-- Where a job stands, one broadcast after another.
use Rattle.px_num.proofs.Basics.{◌≡◌, ℕ, ◌+◌, ◌-◌, ◌<◌, ◌≤◌, min, List, [], ◌∷◌, length, get_or, Option, Some, None}
use Rattle.px_num.proofs.Basics.{refl, sym, ap, ◌∙◌, arith, slice_get, IfNone, slice_get_cases, slice_get_within}
use Rattle.px_num.proofs.Basics.{slice_get-get_or}
use Rattle.px_control.proofs.Words.{columns_of, cycles_in, Device, ends_after, IsAt, IsLawful, IsWithinOperation}
use Rattle.px_control.proofs.Words.{layout_of, Macro, Micro, micro_at, micro_at_clock, need_of, operation_at, passes}
use Rattle.px_control.proofs.Words.{Place, rows_of, SceneView, Stands, StandsFor, start_of, total}
use Rattle.std.specs.Prelude.{OnSome}
use Rattle.px_sched.specs.declared.cursor.Cursor.{Cursor}
use Rattle.px_control.specs.Program.{array_after, operation_ends, program}
use Rattle.px_control.specs.ProgramLaws.{HaveLawfulPasses, HaveClocks}
use Rattle.px_control.proofs.EndLemmas.{next_end_here, operation_here, start_all}
use Rattle.px_control.proofs.StepLemmas.{below_total, micro_here, start_more, start_within}
use Rattle.px_sched.proofs.LawfulLaws.{lawful_here}

pub record Here (scene : SceneView) (p : Place) (m : Macro) : Type 0 where
  pub at : slice_get (passes scene) p.operation ≡ Some m
  pub micro : p.micro < cycles_in scene m
  pub lawful : IsLawful m (need_of (layout_of scene))
  pub below : p.clock < total scene
  pub next : start_of scene (p.operation + 1) ≡ start_of scene p.operation + cycles_in scene m

pub here_of : (scene : SceneView) (p : Place) (m : Macro) → HaveLawfulPasses scene → StandsFor scene p
    → p.current ≡ Some m → Here scene p m
unfolding program
here_of scene p m lawful stands e = grind (arith, rows_of, slice_get, passes, cycles_in, start_of, total, below_total, lawful_here, need_of, layout_of, start_more)

zero_within : (scene : SceneView) (k : ℕ) (o : Option Macro) → HaveLawfulPasses scene → HaveClocks scene
    → slice_get (passes scene) k ≡ o → IsWithinOperation scene 0 o
zero_within scene k o lawful some e = grind (arith, lawful_here)

past : (xs : List Macro) (k : ℕ) → slice_get xs k ≡ None → length xs ≤ k
past xs k e = grind (arith, slice_get_cases)

given_next : (ms : List Macro) (j old new : ℕ) (o : Option Macro) → j ≤ length ms → old ≡ j → slice_get ms j ≡ o →
    OnSome o (new ≡ old + 1) → IfNone o (new ≡ old) → new ≡ min (j + 1) (length ms)
given_next ms j old new None h g e more stays = let l = past ms j e in omega arith
given_next ms j old new (Some m) h g e more stays = let l = slice_get_within ms j m e in omega arith

-- the place behind the last micro of an operation
pub stands_next : (scene : SceneView) (p : Place) (m : Macro) (new : Cursor) (o : Option Macro) (clock : ℕ)
    → HaveLawfulPasses scene → HaveClocks scene →
    StandsFor scene p → p.current ≡ Some m → clock ≡ p.clock + (cycles_in scene m - p.micro) →
    o ≡ slice_get (passes scene) p.cursor.given → Stands scene new → OnSome o (new.given ≡ p.cursor.given + 1)
    → IfNone o (new ≡ p.cursor) →
    StandsFor scene record { cursor = new; clock = clock; operation = p.operation + 1; micro = 0; current = o }
stands_next scene p m new o clock lawful some stands e end is cursor more stays =
    grind (arith, here_of, slice_get_within, given_next, zero_within)

-- the broadcast at a place
pub next_broadcast : (scene : SceneView) (p : Place) (m : Macro) → HaveLawfulPasses scene → StandsFor scene p
    → p.current ≡ Some m → (d : Micro) →
    get_or (program scene) p.clock d ≡ micro_at m (columns_of scene) (rows_of scene) p.micro
unfolding program
next_broadcast scene p m lawful stands e d = grind (arith, micro_here, passes)

pub next_is : (scene : SceneView) (p : Place) (m : Macro) → HaveLawfulPasses scene → StandsFor scene p
    → p.current ≡ Some m →
    slice_get (program scene) p.clock ≡ Some (micro_at m (columns_of scene) (rows_of scene) p.micro)
next_is scene p m lawful stands e =
    let h = here_of scene p m lawful stands e
    in let d = micro_at m (columns_of scene) (rows_of scene) p.micro
    in slice_get-get_or (program scene) p.clock d h.below
    ∙ ap (λ x. Some x) (next_broadcast scene p m lawful stands e d)

-- where no operation is left all broadcasts were made
pub at_end : (scene : SceneView) (p : Place) → StandsFor scene p → p.current ≡ None → p.clock ≡ total scene
unfolding program
at_end scene p stands e = grind (arith, past, start_all)

within_total : (scene : SceneView) (p : Place) (o : Option Macro) → HaveLawfulPasses scene → StandsFor scene p
    → p.current ≡ o → p.clock ≤ total scene
within_total scene p None lawful stands e = omega (arith, at_end scene p stands e)
within_total scene p (Some m) lawful stands e = let h = here_of scene p m lawful stands e in omega (arith, h.below)

pub clock_within : (scene : SceneView) (p : Place) → HaveLawfulPasses scene → StandsFor scene p → p.clock ≤ total scene
clock_within scene p lawful stands = within_total scene p p.current lawful stands refl

pub operation_is : (scene : SceneView) (p : Place) → StandsFor scene p → p.operation ≡ operation_at scene p.clock
unfolding operation_ends
operation_is scene p stands =
    sym (operation_here scene (passes scene) p.operation p.micro 0 p.clock p.current stands.current stands.micro
    (omega (arith, stands.clock)) stands.operation)

pub micro_is : (scene : SceneView) (p : Place) → StandsFor scene p → p.micro ≡ micro_at_clock scene p.clock
micro_is scene p stands = rw (← operation_is scene p stands) (omega (arith, stands.clock))

pub next_end_is : (scene : SceneView) (p : Place) (m : Macro) (e : ℕ) → HaveLawfulPasses scene → HaveClocks scene
    → StandsFor scene p → p.current ≡ Some m →
    e ≡ p.clock - p.micro + cycles_in scene m → ends_after scene p.clock ≡ e ∷ ends_after scene e
unfolding operation_ends
next_end_is scene p m e lawful some stands c is = grind (arith, here_of, next_end_here, passes, zero_within)

pub next_end_within : (scene : SceneView) (p : Place) (m : Macro) (e : ℕ) → HaveLawfulPasses scene → StandsFor scene p
    → p.current ≡ Some m → e ≡ p.clock - p.micro + cycles_in scene m → e ≤ total scene
unfolding program
next_end_within scene p m e lawful stands c is = grind (arith, here_of, start_within)

pub clocks_at : (bits : ℕ) (scene : SceneView) (n : ℕ) (device : Device) → IsAt bits scene n device → device.clocks ≡ n
unfolding array_after
clocks_at bits scene n device at = ap (λ d. d.clocks) at.reached

-- the place before the first broadcast
some_there : (xs : List Macro) (m : Macro) → slice_get xs 0 ≡ Some m → 0 < length xs
some_there [] m is = absurd (cc)
some_there (x ∷ xs) m is = omega arith

given_first : (scene : SceneView) (before now : Cursor) (o : Option Macro) → before.given ≡ 0
    → slice_get (passes scene) 0 ≡ o → OnSome o (now.given ≡ before.given + 1) → IfNone o (now ≡ before)
    → now.given ≡ min 1 (length (passes scene))
given_first scene before now None zero is some stays = grind (arith, past)
given_first scene before now (Some m) zero is some stays = omega (arith, some, zero, some_there (passes scene) m is)

pub stands_first : (scene : SceneView) (before now : Cursor) (o : Option Macro) → HaveLawfulPasses scene
    → HaveClocks scene → before.given ≡ 0 → o ≡ slice_get (passes scene) before.given
    → OnSome o (now.given ≡ before.given + 1) → IfNone o (now ≡ before) → Stands scene now
    → StandsFor scene (record { cursor = now; clock = 0; operation = 0; micro = 0; current = o })
stands_first scene before now o lawful clocks zero is some stays stands = grind (arith, given_first, zero_within)
