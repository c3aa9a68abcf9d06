use Rattle.px_macro.proofs.MacroLemmas.{is_lawful_in_more}
use Rattle.px_control.proofs.ProgramLemmas.{good_program}
use Rattle.px_control.proofs.law.law_of_program.Goals as goal

pub returns : goal.returns
returns c = record { good = good_program c.args.scene.now c.requires; more = is_lawful_in_more }
