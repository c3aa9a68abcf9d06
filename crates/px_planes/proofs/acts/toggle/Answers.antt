use Rattle.px_num.proofs.Basics.{arith, ◌≡◌, ◌∙◌, [], get_or, length, not, refl, ap, get_or_default}
use Rattle.px_array.specs.declared.act.Act.TheVariants.{Toggle}
use Rattle.px_rows.specs.Rows.{row_bit}
use Rattle.px_planes.proofs.StoredLemmas.{bit_of_rows, store_law}
use Rattle.px_planes.proofs.acts.toggle.Goals as goal

pub returns : goal.returns
returns c =
    let planes = c.args.planes.now in
    let old : c.index_mut.result.now ≡ get_or planes.memory.items c.args.at [] = grind (arith, get_or_default) in
    store_law c.args.leaves.now planes c.args.at c.flip.new.self c.requires.place c.requires.words
    (c.flip.ensures.words ∙ (ap length old ∙ c.requires.words.memory c.args.at c.requires.place)) (Toggle c.args.at)
    (λ p. not (row_bit (get_or planes.memory.items c.args.at []) p)) (λ p within. rw (← c.words.ensures, ← old)
    (c.flip.ensures.bits p within))
    (λ p. rw (bit_of_rows planes.memory.items c.args.at p c.requires.place) refl)
