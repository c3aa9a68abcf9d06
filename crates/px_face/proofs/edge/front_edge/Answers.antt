use Rattle.px_num.proofs.Basics.{◌-◌, ◌+◌, List, ap, arith, ◌∙◌, get_or, length}
use Rattle.px_face.proofs.Words.{back_planes, Face, front_planes, level}
use Rattle.px_face.proofs.EdgeLemmas.{front_form_after, front_form_before, front_form_beyond}
use Rattle.px_face.proofs.edge.front_edge.Goals as goal

pub returns-then-place-fronts : goal.returns-then-place-fronts
returns-then-place-fronts c =
    let size = ap length c.fronts-fronts.ensures.value in
    front_form_beyond c.args.solid.now c.args.end c.args.i c.args.place c.above.result c.front_plane-plane.result
    c.back_plane.result c.requires.there
    (omega (arith, c.if-place-fronts.true, size)) c.requires.place
    (c.front_plane-plane.ensures.plane ∙ ap (λ (fs : List Face). get_or (front_planes fs) c.args.i (level 0))
    c.fronts-fronts.ensures.value)
    (c.back_plane.ensures.plane
    ∙ ap (λ (bs : List Face). get_or (back_planes bs c.args.end)
    (c.args.place - length c.fronts-fronts.result.now) (level 0)) c.backs.ensures.value
    ∙ ap (λ n. get_or (back_planes c.args.solid.now.backs c.args.end) (c.args.place - n) (level 0)) size)
    c.above.ensures

pub returns-then-place-i : goal.returns-then-place-i
returns-then-place-i c =
    front_form_before c.args.solid.now c.args.end c.args.i c.args.place c.above-then-place-i.result
    c.front_plane-plane.result c.front_plane.result c.requires.there c.if-place-i.true
    (c.front_plane-plane.ensures.plane ∙ ap (λ (fs : List Face). get_or (front_planes fs) c.args.i (level 0))
    c.fronts-fronts.ensures.value)
    (c.front_plane.ensures.plane ∙ ap (λ (fs : List Face). get_or (front_planes fs) c.args.place (level 0))
    c.fronts-fronts.ensures.value)
    c.above-then-place-i.ensures

pub returns-else-place-i : goal.returns-else-place-i
returns-else-place-i c =
    front_form_after c.args.solid.now c.args.end c.args.i c.args.place c.at_least.result c.front_plane-plane.result
    c.front_plane-else-place-i.result c.requires.there c.if-place-i.false
    (omega (arith, c.if-place-fronts.false, ap length c.fronts-fronts.ensures.value))
    (c.front_plane-plane.ensures.plane ∙ ap (λ (fs : List Face). get_or (front_planes fs) c.args.i (level 0))
    c.fronts-fronts.ensures.value)
    (c.front_plane-else-place-i.ensures.plane
    ∙ ap (λ (fs : List Face). get_or (front_planes fs) (c.args.place + 1) (level 0)) c.fronts-fronts.ensures.value)
    c.at_least.ensures
