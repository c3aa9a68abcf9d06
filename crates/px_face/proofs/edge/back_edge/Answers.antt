use Rattle.px_num.proofs.Basics.{◌-◌, ◌+◌, List, ap, arith, ◌∙◌, get_or, length}
use Rattle.px_face.proofs.Words.{back_planes, Face, front_planes, level}
use Rattle.px_face.proofs.EdgeLemmas.{back_form_after, back_form_before, back_form_beyond}
use Rattle.px_face.proofs.edge.back_edge.Goals as goal

pub returns-then-place-backs : goal.returns-then-place-backs
returns-then-place-backs c =
    let size = ap length c.backs-backs.ensures.value in
    back_form_beyond c.args.solid.now c.args.end c.args.i c.args.place c.above.result c.back_plane-plane.result
    c.front_plane.result c.requires.there
    (omega (arith, c.if-place-backs.true, size)) c.requires.place
    (c.back_plane-plane.ensures.plane ∙ ap (λ (bs : List Face). get_or (back_planes bs c.args.end) c.args.i (level 0))
    c.backs-backs.ensures.value)
    (c.front_plane.ensures.plane
    ∙ ap (λ (fs : List Face). get_or (front_planes fs) (c.args.place - length c.backs-backs.result.now) (level 0))
    c.fronts.ensures.value
    ∙ ap (λ n. get_or (front_planes c.args.solid.now.fronts) (c.args.place - n) (level 0)) size)
    c.above.ensures

pub returns-then-place-i : goal.returns-then-place-i
returns-then-place-i c =
    back_form_before c.args.solid.now c.args.end c.args.i c.args.place c.above-then-place-i.result
    c.back_plane-plane.result c.back_plane.result c.requires.there c.if-place-i.true
    (c.back_plane-plane.ensures.plane ∙ ap (λ (bs : List Face). get_or (back_planes bs c.args.end) c.args.i (level 0))
    c.backs-backs.ensures.value)
    (c.back_plane.ensures.plane ∙ ap (λ (bs : List Face). get_or (back_planes bs c.args.end) c.args.place (level 0))
    c.backs-backs.ensures.value)
    c.above-then-place-i.ensures

pub returns-else-place-i : goal.returns-else-place-i
returns-else-place-i c =
    back_form_after c.args.solid.now c.args.end c.args.i c.args.place c.at_least.result c.back_plane-plane.result
    c.back_plane-else-place-i.result c.requires.there c.if-place-i.false
    (omega (arith, c.if-place-backs.false, ap length c.backs-backs.ensures.value))
    (c.back_plane-plane.ensures.plane ∙ ap (λ (bs : List Face). get_or (back_planes bs c.args.end) c.args.i (level 0))
    c.backs-backs.ensures.value)
    (c.back_plane-else-place-i.ensures.plane
    ∙ ap (λ (bs : List Face). get_or (back_planes bs c.args.end) (c.args.place + 1) (level 0))
    c.backs-backs.ensures.value)
    c.at_least.ensures
