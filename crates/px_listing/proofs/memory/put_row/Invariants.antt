use Rattle.px_num.proofs.Basics.{◌≡◌}
use Rattle.px_listing.proofs.Words.{bits_of, pixel_of, Puts, row_lines}
use Rattle.px_listing.proofs.memory.put_row.Given as goal

abbrev pub invariant-loop-x : goal.invariant-loop-x
invariant-loop-x g l =
    let state = (g.A.Array.view l.array).device.state in
    record {
      put : Puts (g.O.Sink.state l.fn.out) (g.O.Sink.state l.out) l.fn.piece.bytes
          (row_lines g.A.Array.BITS l.x (λ x y. bits_of (pixel_of state x y)) l.y) l.piece.bytes;
      calm : (g.O.Sink.state l.out).faults ≡ (g.O.Sink.state l.fn.out).faults;
    }
