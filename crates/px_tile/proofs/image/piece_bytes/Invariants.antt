use Rattle.px_num.proofs.Basics.{◌≡◌, ◌*◌, take}
use Rattle.arrayvec.specs.ArrayVec.{array_vec_len}
use Rattle.px_tile.specs.Parts.{bytes_of}
use Rattle.px_tile.proofs.image.piece_bytes.Given as goal

abbrev pub invariant-loop-number : goal.invariant-loop-number
invariant-loop-number l = record {
  filled : l.bytes.items ≡ bytes_of l.part (take l.number-index l.piece);
  size : array_vec_len l.bytes ≡ 3 * l.number-index;
}
