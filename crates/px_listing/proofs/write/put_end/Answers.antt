use Rattle.px_num.proofs.Basics.{◌∙◌, [], sym}
use Rattle.std.proofs.lemmas.List.{append-nil}
use Rattle.px_listing.specs.Listings.{end_line}
use Rattle.px_listing.proofs.PieceLaws.{err_cut}
use Rattle.px_listing.proofs.write.put_end.Goals as goal

pub returns-clause-err : goal.returns-clause-err
returns-clause-err g c =
    let line = c.as_str.ensures.value ∙ c.line_of.ensures.text in
    err_cut _ _ _ _ _ _ _ [] [] end_line (append-nil end_line) (rw line at c.in_ok-put.ensures.ok)
    (rw (sym (append-nil c.put.new.piece.bytes)) at c.flush.ensures.err)
