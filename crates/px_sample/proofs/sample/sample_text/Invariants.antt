use Rattle.px_num.proofs.Basics.{◌≡◌, ◌++◌, flat_map, range_with_len}
use Rattle.px_sample.specs.Sample.{block_lines, sample_start}
use Rattle.px_sample.proofs.sample.sample_text.Given as goal

abbrev pub invariant-loop-i : goal.invariant-loop-i
invariant-loop-i l = l.text.items ≡ sample_start l.n ++ flat_map block_lines (range_with_len 0 l.i)
