use Rattle.px_control.proofs.GridLaws.{is_sized_array}
use Rattle.px_control.proofs.law.law_of_sizes.Goals as goal

pub returns : goal.returns
returns c = is_sized_array
