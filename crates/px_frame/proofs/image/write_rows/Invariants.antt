use Rattle.px_num.proofs.Basics.{◌≡◌, ◌≢◌, ◌*◌, ◌%◌, ◌++◌, flat_map, range_with_len}
use Rattle.px_frame.proofs.Words.{header, HoldsRow, row_of_pixels, shown_pixel, stored_number}
use Rattle.px_frame.specs.Waiting.{TakesAllBut}
use Rattle.px_frame.proofs.image.write_rows.Given as goal

abbrev pub invariant-loop-y : goal.invariant-loop-y
invariant-loop-y g l =
    let state = (g.A.Array.view l.array).device.state
    in let row = row_of_pixels l.width (shown_pixel l.scene l.plane (stored_number l.field state))
    in record {
      front : TakesAllBut l.waiting.items (g.O.Sink.state l.fn.out) (g.O.Sink.state l.out)
          (header l.width l.height ++ flat_map row (range_with_len 0 l.y));
      strip : (l.across * l.y) % 8 ≢ 0 → HoldsRow l.strip l.field state l.scene.width (l.across * l.y);
      calm : (g.O.Sink.state l.out).faults ≡ (g.O.Sink.state l.fn.out).faults;
    }
