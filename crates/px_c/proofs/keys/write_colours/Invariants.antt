use Rattle.px_num.proofs.Basics.{◌≡◌, ◌≢◌, ◌%◌, ◌+◌, ◌*◌, ◌<◌, ◌≤◌, ℕ, get_or}
use Rattle.px_frame.specs.Picture.{colour_at}
use Rattle.px_frame.specs.Strips.{HoldsRow}
use Rattle.px_c.specs.Buffers.{HasColour}
use Rattle.px_c.proofs.keys.write_colours.Given as goal

abbrev pub invariant-loop-y : goal.invariant-loop-y
invariant-loop-y g l =
    let width = l.scene.width
    in record {
      strip : l.y % 8 ≢ 0 → HoldsRow l.strip l.faces (g.A.Array.view l.array).device.state width l.y;
      rows : (x y : ℕ) → x < width → y < l.y → HasColour l.rgb (3 * (y * width + x)) (colour_at l.scene x y);
      below : (i : ℕ) → 3 * (l.y * width) ≤ i → get_or l.rgb i 0 ≡ get_or l.fn.rgb i 0;
    }
