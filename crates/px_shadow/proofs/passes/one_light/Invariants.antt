use Rattle.px_num.proofs.Basics.{◌++◌, drop, flat_map}
use Rattle.px_shadow.proofs.Words.{background_passes, depths_of, end_of, IsRestOf, light_passes, solid_of, solid_passes}
use Rattle.px_shadow.proofs.Words.{solids}
use Rattle.px_shadow.proofs.passes.one_light.Given as goal

-- the solids from one on are left
abbrev pub invariant-loop-solid : goal.invariant-loop-solid
invariant-loop-solid g l =
    IsRestOf g.A.Array.BITS (light_passes l.scene l.layout l.light l.fn.solids)
    (flat_map (λ q. solid_passes l.layout (end_of (depths_of l.scene)) l.light (solid_of l.scene q))
    (drop l.solid-index (solids l.fn.solids))
    ++ background_passes l.layout l.light)
    (g.A.Array.view l.fn.array) (g.A.Array.view l.array)
