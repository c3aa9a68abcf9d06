use Rattle.px_num.proofs.Basics.{◌++◌, ◌∙◌, [], ap}
use Rattle.std.proofs.lemmas.List.{append-nil}
use Rattle.px_listing.specs.Listings.{listing_head, grid_line, header_line}
use Rattle.px_listing.proofs.PieceLaws.{err_cut}
use Rattle.px_listing.proofs.write.put_first_lines.Goals as goal

pub returns-clause-err : goal.returns-clause-err
returns-clause-err g c =
    let header = rw c.header_line.ensures.text at c.in_ok-put.ensures.ok in
    let grid = rw (c.as_str.ensures.value ∙ c.grid_line.ensures) at c.put-2.ensures.err in
    let line = grid_line c.args.nx c.args.ny in
    err_cut _ _ _ _ _ _ header_line line [] (listing_head c.args.nx c.args.ny)
    (ap (λ bytes. header_line ++ bytes) (append-nil line)) header grid
