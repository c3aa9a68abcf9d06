use Rattle.px_state.proofs.Cited.{ap, arith, cases_lt, div-mul-add, inl, inr, mod-lt, mod-mul-add, nat_bit, placed}
use Rattle.px_state.proofs.Cited.{row_words, sym, word_bit, ◌%◌, ◌*◌, ◌+◌, ◌/◌, ◌<◌, ◌^◌, ◌∙◌, ◌≡◌}
use Rattle.px_state.proofs.PlaneLemmas.{block_is, same_place, some_words}
use Rattle.px_state.proofs.ShapeLemmas.{plane_end}
use Rattle.px_state.proofs.TurningLemmas.{turned_in}
use Rattle.px_state.proofs.plane.write_plane.Goals as goal

pub loop-b-preserved : goal.loop-b-preserved
loop-b-preserved c =
    let shape = c.args.shape.now in
    let each = row_words shape.nx in
    let b = c.loop-b.b in
    let first = c.args.first in
    let before = c.loop-b.invariant in
    let put = c.put_block.ensures in
    let column : b % each < each = mod-lt b (some_words shape.nx) in
    let bit = placed shape c.args.row.now c.args.from in
    record {
      done = λ y k i row low within end. elim (cases_lt (y / 64 * each + k) b) [
        | inl early ↦
            ap (λ n. nat_bit n i) (put.others (first + (y * each + k)) (λ v in_plane here same.
            let one = same_place each y k v (b % each) low column (omega (arith, same)) in
            omega (arith, early, block_is each y k b (ap (λ n. n / 64) one.0 ∙ here) one.1)))
            ∙ before.done y k i row low within early
        | inr late ↦
            let this : y / 64 * each + k ≡ b = omega (arith, end, late) in
            let here : y / 64 ≡ b / each = sym (div-mul-add (y / 64) each k low) ∙ ap (λ n. n / each) this in
            let there : k ≡ b % each = sym (mod-mul-add (y / 64) each k low) ∙ ap (λ n. n % each) this in
            let whole : 64 * (b / each) + y % 64 ≡ y = omega (arith, here) in
            ap (λ k. word_bit c.put_block.new.words (first + (y * each + k)) i) there
            ∙ (ap (λ n. nat_bit n i) (put.put y row here)
            ∙ (turned_in c.block_of.result c.turned_block-block.result c.turned_block-block.ensures (y % 64) i (omega arith) within
            ∙ (rw c.row_words-each.ensures.words at c.block_of.ensures) i (y % 64) within (omega arith) (omega (arith, whole, row))
            ∙ (ap (bit (64 * (b % each) + i)) whole ∙ ap (λ k. bit (64 * k + i) y) (sym there))))
      ];
      kept = record {
        others = λ k out. put.others k (λ v in_plane here same.
            let end = plane_end v (2 ^ shape.ny) each in_plane in
            elim out [
              | inl low ↦ omega (arith, low, same)
              | inr high ↦ omega (arith, high, same, end, column, shape.plane_is)
            ]) ∙ before.kept.others k out;
        length = put.length ∙ before.kept.length;
      };
    }

pub returns-clause-plane : goal.returns-clause-plane
returns-clause-plane c = λ y k i row low within.
    let shape = c.args.shape.now in
    let each = row_words shape.nx in
    let rows : y / 64 < row_words shape.ny = omega (arith, row) in
    let end = rw (c.row_words-each.ensures.words, c.row_words.ensures.words) at c.loop-b-test.false in
    c.loop-b.invariant.done y k i row low within (omega (arith, low, end, plane_end (y / 64) (row_words shape.ny) each rows))
