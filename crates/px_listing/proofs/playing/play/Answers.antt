use Rattle.px_num.proofs.Basics.{◌∙◌, subst, ap, arith}
use Rattle.px_listing.proofs.Words.{after_macros, bits_of, Device, grid_of_zero_state, IsListing, pixel_of, zero_state}
use Rattle.px_listing.proofs.PlayLemmas.{zero_in_grid}
use Rattle.px_listing.proofs.playing.play.Goals as goal

pub returns-clause-device : goal.returns-clause-device
returns-clause-device g c = grind arith

pub returns-clause-played : goal.returns-clause-played
returns-clause-played g c x y column row =
    let l = c.args.listing.now in
    let bits = g.A.Array.BITS in
    let kept : IsListing l = subst IsListing c.listing.view_is c.listing.invariant in
    ap (λ (d : Device). bits_of (pixel_of d.state x y)) (returns-clause-device g c)
    ∙ (c.law_of_microprograms.ensures.meanings bits l.nx l.ny kept.grid l.macros c.requires.lawful
    (zero_state bits l.nx l.ny)
    (grid_of_zero_state bits l.nx l.ny) x y column row
    ∙ ap (after_macros l.macros x y) (zero_in_grid bits l.nx l.ny x y column row))
