use Rattle.px_state.proofs.Cited.{ap, arith, common_steps, HoldsWords, inl, IsShapeOf, KeepsOutside, leaves_at}
use Rattle.px_state.proofs.Cited.{nat_bit, nodes_end, PixelState, pow-add, refl, room_of, row_words, subst, sym, ◌*◌}
use Rattle.px_state.proofs.Cited.{◌+◌, ◌<◌, ◌^◌, ◌∙◌, ◌≡◌}
use Rattle.px_state.proofs.ClockedLemmas.{kept_nodes, room_is, same_behind, whole_of}
use Rattle.px_state.proofs.RegisterLemmas.{placed_register}
use Rattle.px_state.proofs.ShapeLemmas.{kept_both, plane_end}
use Rattle.px_state.proofs.words.write_grid.Goals as goal

pub write_plane-requires-clause-row : goal.write_plane-requires-clause-row
write_plane-requires-clause-row g c = grind (arith, common_steps, pow-add)

pub write_plane-requires-2-clause-row : goal.write_plane-requires-2-clause-row
write_plane-requires-2-clause-row g c = grind (arith, common_steps, pow-add)

pub write_plane-requires-3-clause-row : goal.write_plane-requires-3-clause-row
write_plane-requires-3-clause-row g c = grind (arith, common_steps, pow-add)

pub returns-clause-words : goal.returns-clause-words
returns-clause-words g c =
    let s = c.args.grid.now.state in
    let shape = c.of-shape.result in
    let size : IsShapeOf shape s.tree = record {
      columns = sym (rw c.size-nx.ensures.size at c.of-shape.ensures.columns);
      rows = sym (rw c.size-nx.ensures.size at c.of-shape.ensures.rows);
    } in
    let each = row_words shape.nx in
    let rows = c.register_rows.ensures in
    let memory = c.write_memory.ensures in
    let enable = c.write_plane.ensures in
    let carry = c.write_plane-2.ensures in
    let latch = c.write_plane-3.ensures in
    let nodes = c.write_nodes.ensures in
    let leaves = c.write_leaves.ensures in
    let new = c.write_leaves.new.words in
    let written = nodes.nodes s.tree size c.nodes.ensures.outputs c.nodes.ensures.carries in
    let room : room_of g.row.N s.tree.nx s.tree.ny ≡ nodes_end shape =
    rw (size.columns, size.rows, ← c.of-shape.ensures.bits) (room_is shape) in
    let end = nodes_end shape in
    let from_nodes : KeepsOutside (leaves_at shape) end c.write_plane-3.new.words new =
    kept_both nodes.kept leaves.kept (omega arith) in
    let from_latch : KeepsOutside ((shape.bits + 2) * shape.plane) end c.write_plane-2.new.words new =
    kept_both latch.kept from_nodes (omega arith) in
    let from_carry : KeepsOutside ((shape.bits + 1) * shape.plane) end c.write_plane.new.words new =
    kept_both carry.kept from_latch (omega arith) in
    let from_enable : KeepsOutside (shape.bits * shape.plane) end c.write_memory.new.words new =
    kept_both enable.kept from_carry (omega arith) in
    let all : KeepsOutside 0 end c.args.words.now new = kept_both memory.kept from_enable (omega arith) in
    record {
      holds = subst (λ b. HoldsWords b s new) c.of-shape.ensures.bits (whole_of shape s size new (record {
        pixels = λ y k i row word bit.
            let q = y * each + k in
            let within : q < shape.plane = omega (arith, shape.plane_is, word, plane_end y (2 ^ shape.ny) each row) in
            record {
              memory = λ b below.
                  let end = plane_end b shape.bits shape.plane below in
                  ap (λ w. nat_bit w i) (from_enable.others (b * shape.plane + q) (inl (omega arith)))
                  ∙ memory.memory b below y k i row word bit;
              enable = ap (λ w. nat_bit w i) (from_carry.others (shape.bits * shape.plane + q) (inl (omega arith)))
                  ∙ (enable.plane y k i row word bit ∙ placed_register shape s (λ (p : PixelState). p.enable) _ size refl
                  rows.enable (64 * k + i) y row);
              carry = ap (λ w. nat_bit w i) (from_latch.others ((shape.bits + 1) * shape.plane + q) (inl (omega arith)))
                  ∙ (carry.plane y k i row word bit ∙ placed_register shape s (λ (p : PixelState). p.carry) _ size refl
                  rows.carry (64 * k + i) y row);
              latch = ap (λ w. nat_bit w i) (from_nodes.others ((shape.bits + 2) * shape.plane + q) (inl (omega arith)))
                  ∙ (latch.plane y k i row word bit ∙ placed_register shape s (λ (p : PixelState). p.latch) _ size refl
                  rows.latch (64 * k + i) y row);
            };
        leaves = leaves.leaves s.tree size written;
        nodes = kept_nodes shape s.tree _ c.write_nodes.new.words new leaves.kept written;
      }));
      behind = same_behind 0 (room_of g.row.N s.tree.nx s.tree.ny) c.args.words.now new (rw room all);
    }
