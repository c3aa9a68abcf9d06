use Rattle.px_num.proofs.Basics.{flat_map}
use Rattle.px_listing.proofs.Words.{end_line, exponent_of, listing_head, macro_line, on_err, passes}
use Rattle.px_listing.proofs.PassesLemmas.{front_of_middle}
use Rattle.px_listing.proofs.passes.write_passes.Goals as goal

pub returns-in_err-put_passes-clause-err : goal.returns-in_err-put_passes-clause-err
returns-in_err-put_passes-clause-err g c =
    let scene = c.args.scene.now in
    let first = rw (c.grid-nx.ensures.columns, c.grid-nx.ensures.rows) at c.in_ok-put_first_lines.ensures.ok in
    on_err _ (front_of_middle _ _ _ _ _ (listing_head (exponent_of scene.width) (exponent_of scene.height))
    (flat_map macro_line (passes scene)) end_line
    c.new-piece.ensures first c.in_err-put_passes.ensures.err)
