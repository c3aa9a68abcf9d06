use Rattle.px_num.proofs.Basics.{◌≡◌, ◌+◌, ◌*◌, ◌^◌, ◌<◌, arith}
use Rattle.px_frame.proofs.Words.{doublings_of, header, on_err, row_of_pixels, shown_pixel, side_shown}
use Rattle.px_frame.proofs.Words.{stored_number}
use Rattle.px_frame.proofs.MeanLemmas.{next_in_strip}
use Rattle.px_frame.proofs.RowLaws.{front_written, other_row, rows_broken, rows_grown}
use Rattle.px_frame.proofs.ShownLemmas.{few_doublings, row_shown}
use Rattle.px_frame.proofs.image.write_rows.Goals as goal

pub returns-in_err-make_room-clause-err : goal.returns-in_err-make_room-clause-err
returns-in_err-make_room-clause-err g c =
    let wide = rw c.width.ensures.value at c.side_shown-width.ensures in
    let high = rw c.height.ensures.value at c.side_shown-height.ensures in
    let below = rw high at c.loop-y-test.true in
    let front = rw (wide, high) at (c.in_err-make_room.ensures.err _ _ c.loop-y.invariant.front) in
    on_err _ (rows_broken _ _ _ _ _ _ below front)

pub returns-in_err-write_whole-clause-err : goal.returns-in_err-write_whole-clause-err
returns-in_err-write_whole-clause-err g c =
    let end : c.loop-y.y ≡ c.side_shown-height.result = omega arith in
    let rest = rw c.as_slice.ensures.value at c.in_err-write_whole.ensures.err in
    let front = front_written _ _ _ _ _ c.loop-y.invariant.front rest in
    on_err _ (rw (end, c.side_shown-width.ensures, c.side_shown-height.ensures, c.width.ensures.value, c.height.ensures.value)
    at front)

pub loop-y-preserved : goal.loop-y-preserved
loop-y-preserved g c =
    let scene = c.args.scene.now in
    let plane = c.args.plane in
    let state = (g.A.Array.view c.args.array.now).device.state in
    let y = c.loop-y.y in
    let k = 2 ^ doublings_of plane in
    let wide = rw c.width.ensures.value at c.side_shown-width.ensures in
    let high = rw c.height.ensures.value at c.side_shown-height.ensures in
    let below : y < side_shown plane scene.height = rw high at c.loop-y-test.true in
    let held = rw (c.width-in-loop-y.ensures.value, c.across_of-across.ensures.value) at c.enter_row.ensures in
    let shown = row_shown scene plane c.args.field state _ y below c.requires.rows held in
    let row = row_of_pixels (side_shown plane scene.width) (shown_pixel scene plane (stored_number c.args.field state)) in
    let more = rw c.unwrap-in-loop-y.ensures at c.try_extend_from_slice-in-loop-y.ensures.ok in
    let next = rw (c.row_bytes-row.ensures, wide, shown) at more in
    let front = rw (wide, high) at (c.in_ok-make_room.ensures.ok _ _ c.loop-y.invariant.front) in
    record {
      front = rw (wide, high, next) (rows_grown _ _ _ (header (side_shown plane scene.width) (side_shown plane scene.height))
          row y front);
      strip = rw c.across_of-across.ensures.value (λ further. other_row _ c.args.field state scene.width (k * y) (k * (y + 1))
          (next_in_strip (doublings_of plane) y (few_doublings plane) further) held);
      calm = grind (arith, c.loop-y.invariant.calm, c.in_ok-make_room.ensures.cause.calm);
    }
