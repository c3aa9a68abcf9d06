use Rattle.px_num.proofs.Basics.{◌==◌, ap, w64, bit_at_set_other, bit_at_set_same}
use Rattle.px_rows.proofs.sides.with_bit.Goals as goal

pub returns-then-v : goal.returns-then-v
returns-then-v c = record {
  here = rw c.if-v.true (ap (λ b. b == 1) (bit_at_set_same w64 c.args.word c.args.j c.requires));
  beside = λ i other. ap (λ b. b == 1) (bit_at_set_other w64 c.args.word c.args.j c.requires i other);
}
