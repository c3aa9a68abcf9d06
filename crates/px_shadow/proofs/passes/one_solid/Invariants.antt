use Rattle.px_num.proofs.Basics.{false, true, [], ◌∷◌, ◌++◌, drop, flat_map, range_with_len}
use Rattle.px_shadow.proofs.Words.{depths_of, end_of, solid_of, face_count, IsRestOf, light_bit, solid_passes}
use Rattle.px_shadow.proofs.Words.{stored_turn}
use Rattle.px_macro.specs.declared.operation.Macro.TheVariants as m
use Rattle.px_shadow.proofs.passes.one_solid.Given as goal

-- the faces from one on are left
abbrev pub invariant-loop-face : goal.invariant-loop-face
invariant-loop-face g l =
    let end = end_of (depths_of l.scene) in
    let s = solid_of l.scene l.solid in
    IsRestOf g.A.Array.BITS (solid_passes l.layout end l.light s)
    (flat_map (stored_turn l.layout end s) (drop l.face (range_with_len 0 (face_count s)))
    ++ m.All ∷ m.KeepBit l.layout.par true ∷ m.SetBit (light_bit l.layout l.light) false ∷ [])
    (g.A.Array.view l.fn.array) (g.A.Array.view l.array)
