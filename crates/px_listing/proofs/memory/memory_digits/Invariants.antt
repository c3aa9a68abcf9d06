use Rattle.px_num.proofs.Basics.{◌≡◌, length}
use Rattle.px_listing.proofs.Words.{digits_of, pixel_of}
use Rattle.px_listing.proofs.memory.memory_digits.Given as goal

abbrev pub invariant-loop-at : goal.invariant-loop-at
invariant-loop-at g l = record {
  digits : l.text.bytes ≡ digits_of l.at (pixel_of (g.A.Array.view l.array).device.state l.x l.y).memory;
  count : length l.text.bytes ≡ l.at;
}
