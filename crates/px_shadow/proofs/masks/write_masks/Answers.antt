use Rattle.px_shadow.proofs.masks.write_masks.Goals as goal

pub returns-clause-err : goal.returns-clause-err
returns-clause-err g c = rw c.lights_field.ensures.field at c.write_rows.ensures.err
