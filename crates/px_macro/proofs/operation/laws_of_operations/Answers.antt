use Rattle.px_macro.proofs.MacroLemmas.{is_lawful_in_more, meanings_join, memory_stays_long}
use Rattle.px_macro.proofs.operation.laws_of_operations.Goals as goal

pub returns : goal.returns
returns c = record { more = is_lawful_in_more; size = memory_stays_long; join = meanings_join }
