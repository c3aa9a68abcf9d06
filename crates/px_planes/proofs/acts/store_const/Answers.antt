use Rattle.px_num.proofs.Basics.{arith, ◌≡◌, ◌∙◌, [], get_or, length, refl, ap, get_or_default}
use Rattle.px_array.specs.declared.act.Act.TheVariants.{StoreConst}
use Rattle.px_planes.proofs.StoredLemmas.{store_law}
use Rattle.px_planes.proofs.acts.store_const.Goals as goal

pub returns : goal.returns
returns c =
    let planes = c.args.planes.now in
    let old : c.index_mut.result.now ≡ get_or planes.memory.items c.args.at [] = grind (arith, get_or_default) in
    store_law c.args.leaves.now planes c.args.at c.paint.new.self c.requires.place c.requires.words
    (c.paint.ensures.words ∙ (ap length old ∙ c.requires.words.memory c.args.at c.requires.place))
    (StoreConst c.args.at c.args.v)
    (λ p. c.args.v) (λ p within. rw (← c.words.ensures, ← old) (c.paint.ensures.bits p within)) (λ p. refl)
