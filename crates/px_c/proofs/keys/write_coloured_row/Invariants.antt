use Rattle.px_num.proofs.Basics.{◌≡◌, ◌+◌, ◌*◌, ◌<◌, ◌≤◌, ℕ, get_or}
use Rattle.px_model.specs.Scenes.{colour_in_scene}
use Rattle.px_frame.specs.Strips.{strip_number}
use Rattle.px_c.specs.Buffers.{HasColour}
use Rattle.px_c.proofs.keys.write_coloured_row.Given as goal

abbrev pub invariant-loop-x : goal.invariant-loop-x
invariant-loop-x l =
    let first = l.y * l.scene.width
    in record {
      row : (x : ℕ) → x < l.x
          → HasColour l.rgb (3 * (first + x)) (colour_in_scene l.scene.solids (strip_number l.strip x l.y));
      above : (i : ℕ) → i < 3 * first → get_or l.rgb i 0 ≡ get_or l.fn.rgb i 0;
      below : (i : ℕ) → 3 * (first + l.x) ≤ i → get_or l.rgb i 0 ≡ get_or l.fn.rgb i 0;
    }
