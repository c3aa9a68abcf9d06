use Rattle.px_num.proofs.Basics.{arith, ◌≡◌, ◌∙◌, [], get_or, length, refl, ap, get_or_default}
use Rattle.px_planes.proofs.Words.{row_bit, StoreLatch}
use Rattle.px_planes.proofs.StoredLemmas.{store_law}
use Rattle.px_planes.proofs.acts.store_latch.Goals as goal

pub returns : goal.returns
returns c =
    let planes = c.args.planes.now in
    let old : c.index_mut.result.now ≡ get_or planes.memory.items c.args.at [] = grind (arith, get_or_default) in
    store_law c.args.leaves.now planes c.args.at c.choose.new.self c.requires.place c.requires.words
    (c.choose.ensures.words ∙ (ap length old ∙ c.requires.words.memory c.args.at c.requires.place))
    (StoreLatch c.args.at)
    (λ p. row_bit planes.latch p) (λ p within. rw (← c.words.ensures, ← c.words-2.ensures, ← old)
    (c.choose.ensures.bits p within)) (λ p. refl)
