use Rattle.px_num.proofs.Basics.{arith}
use Rattle.px_sample.proofs.SampleLemmas.{union_of_one}
use Rattle.px_sample.proofs.sample.+put_union.Goals as goal

pub returns-then-end-first : goal.returns-then-end-first
returns-then-end-first t c = grind (arith, union_of_one)
