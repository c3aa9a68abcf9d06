use Rattle.px_num.proofs.Basics.{◌≡◌, All, take}
use Rattle.px_face.proofs.Words.{edges, IsInTreeRange}
use Rattle.arrayvec.specs.ArrayVec.{array_vec_len}
use Rattle.px_face.proofs.edge.edges.Given as goal

abbrev pub invariant-loop-place : goal.invariant-loop-place
invariant-loop-place l = record {
  forms : l.buf.items ≡ take l.place (edges l.solid l.end l.face);
  count : array_vec_len l.buf ≡ l.place;
  range : All IsInTreeRange l.buf.items;
}
