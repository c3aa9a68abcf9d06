use Rattle.px_num.proofs.Basics.{◌≡◌, ◌+◌, ◌^◌, ◌<◌}
use Rattle.px_asm.proofs.Words.{bit_at, number_from_bits, pixel_of}
use Rattle.px_asm.proofs.number.number_in.Given as goal

abbrev pub invariant-loop-t : goal.invariant-loop-t
invariant-loop-t g l =
    let memory = (pixel_of (g.A.Array.view l.array).device.state l.x l.y).memory
    in record {
      number : l.number ≡ number_from_bits (λ s. bit_at memory (l.field.at + s)) l.t;
      small : l.number < 2 ^ l.t;
    }
