use Rattle.px_num.proofs.Basics.{◌-◌}
use Rattle.px_sample.proofs.sample.+put_union.Given as goal

abbrev pub decreases-put_union : goal.decreases-put_union
decreases-put_union l = l.end - l.first
