use Rattle.px_planes.proofs.operating.operate_part.Goals as goal

pub returns-then-is_crowd : goal.returns-then-is_crowd
returns-then-is_crowd c = rw (c.in-AddLinear.is) c.add_in_strips.ensures
