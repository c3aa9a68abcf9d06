use Rattle.px_num.proofs.Basics.{◌≤◌, ◌∙◌, arith, drop, take, between}
use Rattle.px_io.proofs.ToldLaws.{front_after, front_before, takes_both, on_err}
use Rattle.px_tile.specs.Parts.{bytes_of}
use Rattle.px_tile.proofs.ImageLemmas.{bytes_all, bytes_on}
use Rattle.px_tile.proofs.image.write_pixels.Goals as goal

pub loop-start-preserved : goal.loop-start-preserved
loop-start-preserved g c =
    let p = c.args.part in
    let xs = c.args.found.now in
    let start = c.loop-start.start in
    let end = c.min-end.result in
    let low : start ≤ end = omega (arith, c.loop-start-test.true) in
    let wrote = rw (c.as_slice.ensures.value, c.piece_bytes-bytes.ensures) at c.in_ok-write_whole.ensures.ok in
    record {
      within = omega arith;
      front = rw (bytes_on p xs start end low) at
          (takes_both _ _ _ (bytes_of p (take start xs)) (bytes_of p (between start end xs))
          c.loop-start.invariant.front wrote);
      calm = c.in_ok-write_whole.ensures.cause.calm ∙ c.loop-start.invariant.calm;
    }

pub returns-in_err-write_whole-clause-err : goal.returns-in_err-write_whole-clause-err
returns-in_err-write_whole-clause-err g c =
    let p = c.args.part in
    let xs = c.args.found.now in
    let start = c.loop-start.start in
    let end = c.min-end.result in
    let low : start ≤ end = omega (arith, c.loop-start-test.true) in
    let wrote = rw (c.as_slice.ensures.value, c.piece_bytes-bytes.ensures) at c.in_err-write_whole.ensures.err in
    let front = rw (bytes_on p xs start end low) at
    (front_after _ _ _ (bytes_of p (take start xs)) (bytes_of p (between start end xs))
    c.loop-start.invariant.front wrote) in
    on_err _ (rw (bytes_all p xs end) at (front_before _ _ (bytes_of p (take end xs))
    (bytes_of p (drop end xs)) front))
