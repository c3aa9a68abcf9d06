use Rattle.px_num.proofs.Basics.{arith, nat_tests, common_steps, take_all, ap, get_or, ℕ, ◌∙◌}
use Rattle.px_face.proofs.EdgeLemmas.{edges_count}
use Rattle.px_face.specs.Edges.{edge_count}
use Rattle.px_face.specs.Faces.{level}
use Rattle.px_shadow.proofs.Words.{depths_of, edges, end_of, solid_of, SolidView}
use Rattle.px_shadow.proofs.StepLemmas.{turn_more}
use Rattle.px_shadow.proofs.passes.turn_of.Goals as goal

pub loop-place-preserved : goal.loop-place-preserved
loop-place-preserved c =
    let scene = c.args.scene.now in
    let size = edges_count (solid_of scene c.args.solid) (end_of (depths_of scene)) c.args.face c.requires.face in
    record {
      first = turn_more _ _ (level 0) _ _ _ c.loop-place.invariant.first
          (c.edge_at.ensures.form
          ∙ ap (λ (s : SolidView). get_or (edges s c.end-end.result c.args.face) c.loop-place.place (level 0))
          c.solid_at-solid.ensures
          ∙ ap (λ (e : ℕ). get_or (edges (solid_of scene c.args.solid) e c.args.face) c.loop-place.place (level 0))
          c.end-end.ensures.value)
          (omega (
            arith,
            size,
            c.loop-place-test.true,
            c.edge_count-place-end.ensures.count,
            ap edge_count c.solid_at-solid.ensures,
          ))
          c.push-in-loop-place.ensures.items;
      room = omega (arith, c.push-in-loop-place.ensures.len, c.loop-place.invariant.room);
    }

pub returns : goal.returns
returns c = grind (arith, nat_tests, common_steps, take_all, edges_count)
