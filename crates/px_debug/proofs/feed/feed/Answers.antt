use Rattle.px_num.proofs.Basics.{◌+◌, ◌++◌, drop, take}
use Rattle.px_io.proofs.ToldLaws.{on_err}
use Rattle.px_debug.proofs.FeedingLemmas.{all_bytes, broke_bytes, fed_quit, one_byte_more}
use Rattle.px_debug.proofs.feed.feed.Goals as goal

pub returns-in-Quit-clause-ok : goal.returns-in-Quit-clause-ok
returns-in-Quit-clause-ok g c from text start =
    let i = c.loop-byte.byte-index in
    let bytes = c.args.bytes.now in
    rw (all_bytes text bytes (i + 1)) at
    (fed_quit _ (text ++ take (i + 1) bytes) (drop (i + 1) bytes) from _ _ c.take_byte.new.held.items
    (rw (one_byte_more text bytes i c.loop-byte-test.true) at
    (rw c.in-Quit.is at (c.in_ok-take_byte.ensures.ok from _ (c.loop-byte.invariant.fed from text start)))))

pub returns-in_err-take_byte-clause-err : goal.returns-in_err-take_byte-clause-err
returns-in_err-take_byte-clause-err g c from text start =
    let i = c.loop-byte.byte-index in
    let bytes = c.args.bytes.now in
    on_err _ (rw (all_bytes text bytes (i + 1)) at
    (broke_bytes _ (text ++ take (i + 1) bytes) (drop (i + 1) bytes) from _
    (rw (one_byte_more text bytes i c.loop-byte-test.true) at
    (c.in_err-take_byte.ensures.err from _ (c.loop-byte.invariant.fed from text start)))))
