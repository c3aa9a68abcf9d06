use Rattle.px_num.proofs.Basics.{◌≡◌, ◌≢◌, ◌%◌, ◌+◌, ◌*◌, ◌<◌, ◌≤◌, ℕ, get_or}
use Rattle.px_array.specs.Arrays.{pixel_of}
use Rattle.px_macro.specs.Fields.{number_in}
use Rattle.px_frame.specs.Strips.{HoldsRow}
use Rattle.px_c.proofs.keys.write_numbers.Given as goal

abbrev pub invariant-loop-y : goal.invariant-loop-y
invariant-loop-y g l =
    let state = (g.A.Array.view l.array).device.state
    in record {
      strip : l.y % 8 ≢ 0 → HoldsRow l.strip l.field state l.width l.y;
      rows : (x y : ℕ) → x < l.width → y < l.y → get_or l.numbers (y * l.width + x) 0
          ≡ number_in l.field (pixel_of state x y).memory;
      below : (i : ℕ) → l.y * l.width ≤ i → get_or l.numbers i 0 ≡ get_or l.fn.numbers i 0;
    }
