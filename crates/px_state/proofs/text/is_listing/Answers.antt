use Rattle.px_state.proofs.Cited.{[], ap, false, refl, rules, slice_get, starts_listing, sym, unwrap_or, words_of}
use Rattle.px_state.proofs.Cited.{YieldsList-at, YieldsList-end, YieldsList-from_filter_map}
use Rattle.px_state.proofs.Cited.{YieldsList-from_slice_split, YieldsList-turn, ◌==◌}
use Rattle.px_state.specs.Refusals.{is_listing}
use Rattle.px_state.proofs.WordLemmas.{first_of}
use Rattle.px_state.proofs.text.is_listing.Goals as goal

pub returns-in-Some : goal.returns-in-Some
unfolding is_listing
returns-in-Some c =
    let turn = YieldsList-turn
    (YieldsList-from_filter_map _ (λ line. starts_listing (words_of line))
    (YieldsList-at c.filter_map-starts.ensures.source
    (YieldsList-from_slice_split _ (λ b. b == 10) c.args.text.now (cc) (cc) (cc) (λ x b q k. search rules)))
    c.filter_map-starts.ensures.closure (λ x r q k. search rules)) [] _ refl _ _ _ c.in-Some.is c.next.ensures.steps in
    sym (ap (λ first. unwrap_or first false) (first_of _ c.in-Some.is_listing turn.0 turn.1))

pub returns-in-None : goal.returns-in-None
unfolding is_listing
returns-in-None c =
    let end = YieldsList-end
    (YieldsList-from_filter_map _ (λ line. starts_listing (words_of line))
    (YieldsList-at c.filter_map-starts.ensures.source
    (YieldsList-from_slice_split _ (λ b. b == 10) c.args.text.now (cc) (cc) (cc) (λ x b q k. search rules)))
    c.filter_map-starts.ensures.closure (λ x r q k. search rules)) [] _ refl _ _ c.in-None.is c.next.ensures.steps in
    ap (λ all. unwrap_or (slice_get all 0) false) end.0
