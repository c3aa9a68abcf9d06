use Rattle.px_num.proofs.Basics.{◌≡◌, [], refl}
use Rattle.px_asked.specs.Lines.{left, whole_lines}
use Rattle.px_debug.specs.Buffers.{short}
use Rattle.px_debug.proofs.FeedingLemmas.{fed_key, fed_line}
use Rattle.px_debug.proofs.feed.take_byte.Goals as goal

pub returns-in_ok-going-clause-ok : goal.returns-in_ok-going-clause-ok
returns-in_ok-going-clause-ok g c from text start =
    let kept : c.as_slice.result.now ≡ short (left [] text) = cc (start.held refl) in
    fed_line _ _ text _ from _ _ c.if-byte-eq10.true
    (c.in_ok-going.ensures.given from (whole_lines text) (left [] text) kept start.went) c.clear.ensures

pub returns-else-byte-eq10-clause-ok : goal.returns-else-byte-eq10-clause-ok
returns-else-byte-eq10-clause-ok g c from text start =
    fed_key _ text _ from _ _ _ c.if-byte-eq10.false start (c.hold_byte.ensures (left [] text) (start.held refl))
