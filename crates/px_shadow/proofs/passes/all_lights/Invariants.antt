use Rattle.px_num.proofs.Basics.{◌+◌, drop}
use Rattle.px_shadow.proofs.Words.{IsRestOf, passes_from, shadow_passes}
use Rattle.px_shadow.proofs.passes.all_lights.Given as goal

-- the lights from one on are left
abbrev pub invariant-loop-i : goal.invariant-loop-i
invariant-loop-i g l =
    IsRestOf g.A.Array.BITS (shadow_passes l.scene l.layout l.lights)
    (passes_from l.scene l.layout (l.i + 1) (drop l.i l.lights))
    (g.A.Array.view l.fn.array) (g.A.Array.view l.array)
