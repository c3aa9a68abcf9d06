use Rattle.px_num.proofs.Basics.{◌≡◌, ◌-◌, length, subst, sym, ◌∙◌, arith}
use Rattle.px_plane_tree.proofs.Words.{power_grows}
use Rattle.px_plane_tree.proofs.LevelLemmas.{IsFedDown, are_still, fed_heap, fed_more, next_fits, levels, next_rest}
use Rattle.px_plane_tree.proofs.heap.feed_heap.Goals as goal

pub feed_level-requires-clause-from : goal.feed_level-requires-clause-from
feed_level-requires-clause-from c = omega (arith, c.power.ensures, power_grows 1 (c.loop-u.u - 1) (omega arith))

pub feed_level-requires-clause-outputs : goal.feed_level-requires-clause-outputs
feed_level-requires-clause-outputs c =
    rw c.power.ensures (next_fits (c.loop-u.u - 1) (length c.args.still.now) (length c.loop-u.outputs) (omega arith)
    (c.loop-u.auto.outputs ∙ c.requires.levels))

pub feed_level-requires-clause-carries : goal.feed_level-requires-clause-carries
feed_level-requires-clause-carries c =
    rw c.power.ensures (next_fits (c.loop-u.u - 1) (length c.args.still.now) (length c.loop-u.carries) (omega arith)
    (c.loop-u.auto.carries ∙ (c.requires.heap.same ∙ c.requires.levels)))

pub feed_level-requires-clause-rest : goal.feed_level-requires-clause-rest
feed_level-requires-clause-rest c = λ may here.
    rw (c.power.ensures, c.line_of-line.ensures)
    (next_rest c.args.feed.nx c.args.feed.last c.args.feed.now (c.loop-u.u - 1) _ _ _ _ _ _ (omega arith) (omega arith)
    (grind arith) c.requires.still
    (c.rest_of-rest.ensures.line may) (c.rest_of-rest.ensures.above may) (sym c.rest_of-rest.ensures.was ∙ here))

pub loop-u-preserved : goal.loop-u-preserved
loop-u-preserved c = record {
  low = omega arith;
  down = fed_more c.args.feed.nx c.args.feed.now (c.loop-u.u - 1) _ _ _ _ _ c.loop-u.still _ _ c.feed_level.result (omega arith)
      (omega arith) c.loop-u.auto.still (grind arith)
      (rw (c.power.ensures, c.line_of-line.ensures) at c.feed_level.ensures.fed) c.feed_level.ensures.outputs
      c.feed_level.ensures.carries;
}

pub returns-clause-fed : goal.returns-clause-fed
returns-clause-fed c =
    let one : c.loop-u.u ≡ 1 = omega arith in
    let before = subst (λ n. IsFedDown c.args.feed.nx c.args.feed.now n (levels c.args.outputs.now c.args.carries.now
    c.args.still.now) (levels c.loop-u.outputs c.loop-u.carries c.loop-u.still)) one c.loop-u.invariant.down in
    fed_heap c.args.feed.nx c.args.feed.now c.args.feed.heads.now _ _ _ _ _ _ _ _ c.feed_head.result c.requires.heap
    c.requires.levels c.requires.some c.loop-u.auto.still c.requires.heads before c.feed_head.ensures.fed
    (c.feed_head.auto.outputs ∙ c.loop-u.auto.outputs) (c.feed_head.auto.carries ∙ c.loop-u.auto.carries)

pub returns-clause-still : goal.returns-clause-still
returns-clause-still c =
    let one : c.loop-u.u ≡ 1 = omega arith in
    let before = subst (λ n. IsFedDown c.args.feed.nx c.args.feed.now n (levels c.args.outputs.now c.args.carries.now
    c.args.still.now) (levels c.loop-u.outputs c.loop-u.carries c.loop-u.still)) one c.loop-u.invariant.down in
    are_still c.args.feed.nx c.args.feed.now c.args.feed.heads.now _ _ _ _ _ _ _ _ c.feed_head.result c.requires.heap
    c.requires.levels c.requires.some c.loop-u.auto.still c.requires.heads before c.feed_head.ensures.fed
    c.feed_head.ensures.second c.feed_head.ensures.third
