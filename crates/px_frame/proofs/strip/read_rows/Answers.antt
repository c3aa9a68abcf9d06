use Rattle.px_num.proofs.Basics.{◌≡◌, ◌+◌, ◌*◌, ◌^◌, ◌<◌, length, arith}
use Rattle.px_frame.proofs.StripLemmas.{columns_more}
use Rattle.px_frame.proofs.strip.read_rows.Goals as goal

pub loop-x-preserved : goal.loop-x-preserved
loop-x-preserved g c =
    let state = (g.A.Array.view c.args.array.now).device.state in
    let more = rw c.unwrap.ensures at c.try_extend_from_slice.ensures.ok in
    let count = rw c.unwrap.ensures at c.try_extend_from_slice.ensures.len in
    let inside : c.loop-x.x < 2 ^ state.tree.nx = omega (arith, c.requires.numbers.columns) in
    let place : c.leaf_index.result ≡ c.loop-x.x * 2 ^ state.tree.ny + c.args.top =
    rw c.size-nx.ensures.size at c.leaf_index.ensures.value in
    let long : length c.eight_numbers-column.result ≡ 8 = omega arith in
    record {
      holds = rw more (columns_more c.args.field state c.loop-x.x c.args.top c.leaf_index.result c.loop-x.numbers.items
          c.eight_numbers-column.result c.requires.first inside c.requires.numbers.few place long
          c.eight_numbers-column.ensures.numbers c.eight_numbers-column.ensures.small c.loop-x.invariant.holds);
      size = omega (arith, count, c.loop-x.invariant.size);
    }
