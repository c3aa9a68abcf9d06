use Rattle.px_num.proofs.Basics.{◌≡◌, drop, take, ◌++◌}
use Rattle.std.specs.Vec.Iter.{into_iter_items, into_iter_len}
use Rattle.px_program.proofs.behind_the_name.Given as goal

abbrev pub invariant-loop-word : goal.invariant-loop-word
invariant-loop-word l = l.words.items ++ take (into_iter_len l.arguments) (into_iter_items l.arguments)
    ≡ drop 1 (take (into_iter_len l.fn.arguments) (into_iter_items l.fn.arguments))

abbrev pub decreases-loop-word : goal.decreases-loop-word
decreases-loop-word l = into_iter_len l.arguments
