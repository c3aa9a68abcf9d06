use Rattle.std.proofs.Common.{rules}
use Rattle.px_sched.proofs.LayoutLaws.{scene_layout}
use Rattle.px_sched.proofs.PassesLaws.{passes_are_few, passes_are_lawful, passes_leave_the_picture, steps_are_lawful}
use Rattle.px_sched.proofs.passes.laws_of_passes.Goals as goal

pub returns : goal.returns
returns c = search (rules, scene_layout, passes_are_lawful, steps_are_lawful, passes_are_few, passes_leave_the_picture)
