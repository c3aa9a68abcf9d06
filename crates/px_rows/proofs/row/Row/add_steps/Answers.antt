use Rattle.px_num.proofs.Basics.{◌≡◌, ◌+◌, ◌-◌, ◌*◌, ◌<◌, ◌≤◌, ◌∙◌, length, arith, rules}
use borrow.Rule.Slice.PartMut.{put_mid}
use Rattle.std.proofs.lemmas.List.{with_items_is}
use Rattle.px_rows.proofs.PartLemmas.{bit_in_part, bit_in_put}
use Rattle.px_rows.proofs.row.Row.add_steps.Goals as goal

pub returns-clause-inside : goal.returns-clause-inside
returns-clause-inside c p small =
    let at = c.args.at in
    let k = (at + length c.args.first.now) - at in
    let row = c.deref_mut.result.now in
    let part = c.add_steps_row.new.target in
    let room : at + k ≤ length row = grind arith in
    let long : length part ≡ k = grind arith in
    let low : p < 64 * k = omega (arith, small) in
    let whole : length (put_mid at k row part) ≡ c.self.inside.words.len = grind (arith, rules) in
    rw (with_items_is c.self.inside.words (put_mid at k row part) whole)
    (bit_in_put at k p row part room long low ∙ grind (arith, bit_in_part))
