use Rattle.px_num.proofs.Basics.{refl, err_from_is_err_and}
use Rattle.px_draw.proofs.PlayLemmas.{performs_played, plays_listing, plays_text}
use Rattle.px_draw.proofs.play.play_input.Goals as goal

pub returns-in_err-listing-clause-performs : goal.returns-in_err-listing-clause-performs
returns-in_err-listing-clause-performs g c =
    let p = err_from_is_err_and c.from_residual-in_err-listing.result c.from_residual-in_err-listing.ensures.1 in
    rw (p.1, p.2) (performs_played _ _ _ _ _ c.in_ok-text.ensures.front c.in_ok-text.ensures.taken
    (plays_text _ _ _ _ _ _ _ c.BITS.ensures c.as_slice.ensures.value c.in_err-listing.ensures.err refl refl))

pub returns-clause-performs : goal.returns-clause-performs
returns-clause-performs g c =
    performs_played _ _ _ _ _ c.in_ok-text.ensures.front c.in_ok-text.ensures.taken
    (plays_listing _ _ _ _ _ _ _ _ c.BITS.ensures c.as_slice.ensures.value c.in_ok-listing.ensures.ok.0
    c.in_ok-listing.ensures.ok.1
    c.play_listing.ensures.serves c.play_listing.ensures.array)
