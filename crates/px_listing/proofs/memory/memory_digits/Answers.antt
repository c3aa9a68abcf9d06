use Rattle.px_num.proofs.Basics.{◌++◌, ◌∙◌, ap, arith}
use Rattle.px_listing.proofs.Words.{bit_at, bit_digit, digits_of, pixel_of}
use Rattle.px_listing.proofs.RowLaws.{made_more}
use Rattle.px_listing.proofs.memory.memory_digits.Goals as goal

pub loop-at-preserved : goal.loop-at-preserved
loop-at-preserved g c =
    let memory = (pixel_of (g.A.Array.view c.args.array.now).device.state c.args.x c.args.y).memory in
    let at = c.loop-at.at in
    let before = c.loop-at.invariant in
    let one = c.digit.ensures ∙ ap bit_digit c.bit.ensures in
    record {
      digits = c.push_str.ensures.bytes ∙ (ap (λ t. t ++ c.digit.result.now) before.digits
          ∙ (ap (λ t. digits_of at memory ++ t) one ∙ made_more (λ k. bit_digit (bit_at memory k)) at));
      count = rw one at c.push_str.ensures.len ∙ omega (arith, before.count);
    }
