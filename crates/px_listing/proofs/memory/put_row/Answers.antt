use Rattle.px_num.proofs.Basics.{◌+◌, ◌-◌, ◌<◌, ℕ, List, ◌∙◌, arith, flat_map, range_with_len}
use Rattle.px_listing.proofs.Words.{bits_of, line_of_pixel, on_err, pixel_of}
use Rattle.px_listing.proofs.PieceLaws.{puts_both, puts_cut}
use Rattle.px_listing.proofs.RowLaws.{made_cut, made_more}
use Rattle.px_listing.proofs.memory.put_row.Goals as goal

pub returns-in_err-put-clause-err : goal.returns-in_err-put-clause-err
returns-in_err-put-clause-err g c =
    let state = (g.A.Array.view c.args.array.now).device.state in
    let f : ℕ → List ℕ = λ x. line_of_pixel g.A.Array.BITS x c.args.y (bits_of (pixel_of state x c.args.y)) in
    let x = c.loop-x.x in
    let within : x < c.args.columns = omega arith in
    let line = c.as_str.ensures.value ∙ c.pixel_line.ensures in
    on_err _ (puts_cut _ _ _ _ _ _ (f x) (flat_map f (range_with_len (x + 1) (c.args.columns - (x + 1)))) _
    (made_cut f x c.args.columns within) c.loop-x.invariant.put (rw line at c.in_err-put.ensures.err))

pub loop-x-preserved : goal.loop-x-preserved
loop-x-preserved g c =
    let state = (g.A.Array.view c.args.array.now).device.state in
    let f : ℕ → List ℕ = λ x. line_of_pixel g.A.Array.BITS x c.args.y (bits_of (pixel_of state x c.args.y)) in
    let line = c.as_str.ensures.value ∙ c.pixel_line.ensures in
    record {
      put = rw (made_more f c.loop-x.x) at (puts_both _ _ _ _ _ _ _ _ c.loop-x.invariant.put
          (rw line at c.in_ok-put.ensures.ok));
      calm = c.in_ok-put.ensures.cause.calm ∙ c.loop-x.invariant.calm;
    }
