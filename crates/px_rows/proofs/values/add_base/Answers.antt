use Rattle.px_num.proofs.Basics.{◌≡◌, w64, to_z, of_z, to_z-of_z}
use Rattle.px_rows.proofs.WordLemmas.{all_ones}
use Rattle.px_rows.proofs.values.add_base.Goals as goal

pub returns-clause-value : goal.returns-clause-value
returns-clause-value c j u within h =
    let all = all_ones.each j within in
    let base : to_z w64 (of_z w64 c.args.base) ≡ c.args.base = to_z-of_z w64 c.args.base c.ranges.base in
    rw (all, base) at (c.add_constant.ensures.value j u within h)
