use Rattle.px_num.proofs.Basics.{◌≡◌, ◌^◌, [], flat_map, range_with_len}
use Rattle.px_listing.proofs.Words.{bits_of, pixel_of, Puts, row_lines}
use Rattle.px_listing.proofs.memory.write_memory.Given as goal

abbrev pub invariant-loop-y : goal.invariant-loop-y
invariant-loop-y g l =
    let state = (g.A.Array.view l.array).device.state in
    record {
      put : Puts (g.O.Sink.state l.fn.out) (g.O.Sink.state l.out) []
          (flat_map (row_lines g.A.Array.BITS (2 ^ l.nx) (λ x y. bits_of (pixel_of state x y)))
          (range_with_len 0 l.y)) l.piece.bytes;
      calm : (g.O.Sink.state l.out).faults ≡ (g.O.Sink.state l.fn.out).faults;
    }
