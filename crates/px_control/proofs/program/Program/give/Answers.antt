use Rattle.px_num.proofs.Basics.{subst, sym}
use Rattle.px_sched.specs.Cursors.{Stands}
use Rattle.px_control.proofs.program.Program.give.Goals as goal

pub next_macro-requires-clause-stands : goal.next_macro-requires-clause-stands
next_macro-requires-clause-stands c = subst (λ s. Stands s c.args.cursor.now) (sym c.self.view_is) c.requires

pub returns-clause-stands : goal.returns-clause-stands
returns-clause-stands c = subst (λ s. Stands s c.next_macro.new.self) c.self.view_is c.next_macro.ensures.stands
