use Rattle.px_normal.proofs.NormalLemmas.{is_normal_form, all_plain, all_below}
use Rattle.px_normal.proofs.normal.laws_of_normal_forms.Goals as goal

pub returns-clause-law : goal.returns-clause-law
returns-clause-law c tree below solid_at = is_normal_form solid_at tree below

pub returns-clause-known : goal.returns-clause-known
returns-clause-known c = all_below
