use Rattle.px_num.proofs.Basics.{◌≡◌, ◌+◌, ◌*◌, ◌≤◌, ◌++◌, length, map, take, signed_decimal}
use Rattle.px_text.specs.Written.{spaced}
use Rattle.px_listing.proofs.line.line_of.Given as goal

abbrev pub invariant-loop-number : goal.invariant-loop-number
invariant-loop-number l = record {
  text : l.line.bytes ≡ l.word ++ spaced (map signed_decimal (take l.number-index l.numbers));
  short : length l.line.bytes ≤ 12 + 21 * l.number-index;
}
