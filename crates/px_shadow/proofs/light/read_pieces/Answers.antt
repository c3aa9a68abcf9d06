use Rattle.px_num.proofs.Basics.{rules, ◌≡◌, ◌<◌, ◌+◌, ◌==◌, ◌∙◌, [], ◌∷◌, ◌++◌, length, arith, length-append}
use Rattle.px_num.proofs.Basics.{slice_split, YieldsList-at, YieldsList-end, YieldsList-turn}
use Rattle.px_num.proofs.Basics.{YieldsList-from_slice_split, length-map}
use Rattle.px_shadow.proofs.Words.{pieces_of, words_of}
use Rattle.px_shadow.proofs.LineLemmas.{all_read, line_at, step_bad, step_each, step_good}
use Rattle.px_shadow.proofs.light.read_pieces.Goals as goal

pub loop-piece-preserved : goal.loop-piece-preserved
loop-piece-preserved c =
    let pieces = slice_split (λ b. b == 10) c.args.text.now in
    let lines = pieces_of c.args.text.now in
    let k = length c.loop-piece.yielded in
    let turn =
    YieldsList-turn
    (YieldsList-at c.into_iter-piece-iterator.ensures.into_iter_gives
    (YieldsList-from_slice_split _ (λ b. b == 10) _ c.split-piece-items.ensures.rest c.split-piece-items.ensures.done
    c.split-piece-items.ensures.closure (λ x b q k. search rules)))
    c.loop-piece.yielded _ c.loop-piece.yielded_by _ _ c.in-Some.piece c.in-Some.is c.next.ensures.steps in
    let low : k < length lines = omega (arith, turn.0, length-map pieces words_of) in
    let is = line_at pieces k c.in-Some.piece.now turn.0 turn.1 in
    let next : length (c.loop-piece.yielded ++ c.in-Some.piece ∷ []) ≡ k + 1 =
    length-append c.loop-piece.yielded (c.in-Some.piece ∷ []) in
    let made = c.in-Ok.ensures in
    grind (arith, step_good, step_each)

pub returns-in-Err-clause-fault : goal.returns-in-Err-clause-fault
returns-in-Err-clause-fault c =
    let pieces = slice_split (λ b. b == 10) c.args.text.now in
    let lines = pieces_of c.args.text.now in
    let k = length c.loop-piece.yielded in
    let turn =
    YieldsList-turn
    (YieldsList-at c.into_iter-piece-iterator.ensures.into_iter_gives
    (YieldsList-from_slice_split _ (λ b. b == 10) _ c.split-piece-items.ensures.rest c.split-piece-items.ensures.done
    c.split-piece-items.ensures.closure (λ x b q k. search rules)))
    c.loop-piece.yielded _ c.loop-piece.yielded_by _ _ c.in-Some.piece c.in-Some.is c.next.ensures.steps in
    let low : k < length lines = omega (arith, turn.0, length-map pieces words_of) in
    let is = line_at pieces k c.in-Some.piece.now turn.0 turn.1 in
    grind (arith, step_bad)

pub returns-clause-ok : goal.returns-clause-ok
returns-clause-ok c =
    let pieces = slice_split (λ b. b == 10) c.args.text.now in
    let all =
    YieldsList-end
    (YieldsList-at c.into_iter-piece-iterator.ensures.into_iter_gives
    (YieldsList-from_slice_split _ (λ b. b == 10) _ c.split-piece-items.ensures.rest c.split-piece-items.ensures.done
    c.split-piece-items.ensures.closure (λ x b q k. search rules)))
    c.loop-piece.yielded _ c.loop-piece.yielded_by _ _ c.in-None.is c.next.ensures.steps in
    all_read c.args.scene.now.solids c.args.first_line (pieces_of c.args.text.now) (length c.loop-piece.yielded)
    c.loop-piece.lights.items
    (all.1 ∙ omega (arith, length-map pieces words_of)) c.loop-piece.invariant.good c.loop-piece.invariant.each
    c.loop-piece.invariant.known
