use Rattle.px_num.proofs.Basics.{◌∙◌, ◌≡◌, ℕ, List, length, get_or, ap, arith, get_or_default}
use Rattle.std.proofs.lemmas.List.{with_items_is}
use Rattle.px_tree.specs.Nodes.{after_feed}
use Rattle.px_plane_tree.proofs.TreeLemmas.{fed_seen, fed_tree}
use Rattle.px_plane_tree.proofs.plane_tree.PlaneTreeTree.feed.Goals as goal

pub invariant_of-self : goal.invariant_of-self
invariant_of-self c =
    let lo : length c.feed_heap.new.outputs ≡ c.self.inside.outputs.len =
    omega (arith, c.feed_heap.auto.outputs, c.deref_mut.ensures.len, c.self.inside.outputs.ok.0) in
    let lk : length c.feed_heap.new.carries ≡ c.self.inside.carries.len =
    omega (arith, c.feed_heap.auto.carries, c.deref_mut-2.ensures.len, c.self.inside.carries.ok.0) in
    let lt : length c.feed_heap.new.still ≡ c.self.inside.still.len =
    omega (arith, c.feed_heap.auto.still, c.deref_mut-3.ensures.len, c.self.inside.still.ok.0) in
    let ls : length c.unpack.new.small ≡ c.self.inside.small.len =
    omega (arith, c.unpack.auto.small, c.deref_mut-4.ensures.len, c.self.inside.small.ok.0) in
    let eo = with_items_is c.self.inside.outputs c.feed_heap.new.outputs lo in
    let ek = with_items_is c.self.inside.carries c.feed_heap.new.carries lk in
    let et = with_items_is c.self.inside.still c.feed_heap.new.still lt in
    let es = with_items_is c.self.inside.small c.unpack.new.small ls in
    let fed = rw (c.deref_mut.ensures.value, c.deref_mut-2.ensures.value) at c.feed_heap.ensures.fed in
    record {
      tree = rw (eo, ek, et, es) (fed_tree c.self.inside.nx c.self.inside.ny c.self.inside.last
          (record { a = c.args.a; b = c.args.b; c = c.args.c }) c.self.inside.outputs.items
          c.self.inside.carries.items c.self.inside.small.items c.self.inside.still.items _ _ _ _ c.index.result.now
          c.self.invariant.tree fed c.feed_heap.ensures.still (lo ∙ c.self.inside.outputs.ok.0) (lt
          ∙ c.self.inside.still.ok.0) (ls ∙ c.self.inside.small.ok.0)
          (c.index.ensures ∙ (ap (λ (xs : List ℕ). get_or xs 0 c.index.result.now) eo
          ∙ get_or_default c.feed_heap.new.outputs 0 c.index.result.now 0
          (let room = c.feed_heap.ensures.fed.heap.room in omega arith))) c.unpack.ensures);
      first_b = c.self.invariant.first_b;
      heads = c.self.invariant.heads;
    }

pub returns : goal.returns
returns c =
    let lo : length c.feed_heap.new.outputs ≡ c.self.inside.outputs.len =
    omega (arith, c.feed_heap.auto.outputs, c.deref_mut.ensures.len, c.self.inside.outputs.ok.0) in
    let lk : length c.feed_heap.new.carries ≡ c.self.inside.carries.len =
    omega (arith, c.feed_heap.auto.carries, c.deref_mut-2.ensures.len, c.self.inside.carries.ok.0) in
    rw (
      with_items_is c.self.inside.outputs c.feed_heap.new.outputs lo,
      with_items_is c.self.inside.carries
          c.feed_heap.new.carries lk,
    )
    (fed_seen c.self.inside.nx c.self.inside.ny c.args.a c.args.b c.args.c c.self.inside.outputs.items
    c.self.inside.carries.items _ _ c.self.invariant.tree.enough
    (rw (c.deref_mut.ensures.value, c.deref_mut-2.ensures.value) at c.feed_heap.ensures.fed))
    ∙ ap (after_feed c.args.a c.args.b c.args.c) c.self.view_is
