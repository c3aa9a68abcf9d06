use Rattle.px_planes.proofs.operating.operate_word.Goals as goal

pub returns-in-AddLinear : goal.returns-in-AddLinear
returns-in-AddLinear c = rw (c.in-AddLinear.is) c.add_linear.ensures
