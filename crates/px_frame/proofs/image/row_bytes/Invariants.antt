use Rattle.px_num.proofs.Basics.{◌≡◌, ◌*◌, length, take}
use Rattle.px_frame.proofs.Words.{row_of_pixels, shown_pixel, strip_number}
use Rattle.px_frame.proofs.image.row_bytes.Given as goal

abbrev pub invariant-loop-x : goal.invariant-loop-x
invariant-loop-x l = record {
  filled : take (3 * l.x) l.bytes ≡ row_of_pixels l.x (shown_pixel l.scene l.plane (strip_number l.strip)) l.y;
  size : length l.bytes ≡ 1536;
}
