use Rattle.px_num.proofs.Basics.{◌≡◌, ◌∷◌, ◌+◌, map, take}
use Rattle.arrayvec.specs.ArrayVec.{array_vec_len}
use Rattle.px_shadow.proofs.Words.{depths_of, edges, end_of, solid_of}
use Rattle.px_macro.specs.declared.operation.Macro.TheVariants as m
use Rattle.px_shadow.proofs.passes.turn_of.Given as goal

-- the first of them are those of the edges so far
abbrev pub invariant-loop-place : goal.invariant-loop-place
invariant-loop-place l = record {
  first : l.operations.items ≡ m.All ∷ map m.KeepSign
      (take l.place (edges (solid_of l.scene l.fn.solid) (end_of (depths_of l.scene)) l.face));
  room : array_vec_len l.operations ≡ l.place + 1;
}
