use Rattle.px_frame.proofs.image.write_picture.Goals as goal

pub returns-clause-err : goal.returns-clause-err
returns-clause-err g c = rw c.field_of.ensures.field at c.write_rows.ensures.err
