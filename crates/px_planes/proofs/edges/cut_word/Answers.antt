use Rattle.px_num.proofs.Basics.{pos, ◌+ℤ◌, ◌≤ℤ◌, ◌<ℤ◌, length, arith, ints, to_z-of_z}
use Rattle.px_planes.proofs.OperationLemmas.{kept_whole, none_kept}
use Rattle.px_planes.proofs.edges.cut_word.Goals as goal

pub returns-then-base-edge-ge0 : goal.returns-then-base-edge-ge0
returns-then-base-edge-ge0 c =
    let planes = c.args.planes.now in
    let base = c.base_of-base.result in
    let low = c.args.edge.low in
    let span = c.requires.edge in
    let size = c.base_of-base.ensures.size in
    let test : pos 0 ≤ℤ (base +ℤ low) =
    omega (arith, ints, c.if-base-edge-ge0.true, size.0, size.1, span.first.0, span.first.1) in
    kept_whole c.args.form.now c.args.ny c.args.w (length planes.enable) base low planes c.requires.words
    c.base_of-base.ensures.value span.least test

pub returns-then-base-edge-lt0 : goal.returns-then-base-edge-lt0
returns-then-base-edge-lt0 c =
    let planes = c.args.planes.now in
    let base = c.base_of-base.result in
    let high = c.args.edge.high in
    let span = c.requires.edge in
    let size = c.base_of-base.ensures.size in
    let test : (base +ℤ high) <ℤ pos 0 =
    omega (arith, ints, c.if-base-edge-lt0.true, size.0, size.1, span.second.0, span.second.1) in
    none_kept c.args.form.now c.args.ny c.args.w (length planes.enable) base high planes c.keep_word.new.planes
    c.keep_word.ensures c.base_of-base.ensures.value span.most test

pub cut_mixed_word-requires-clause-values : goal.cut_mixed_word-requires-clause-values
cut_mixed_word-requires-clause-values c j small = grind (arith, to_z-of_z)
