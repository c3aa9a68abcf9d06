use Rattle.px_num.proofs.Basics.{arith, ◌≡◌, ◌∙◌, [], get_or, length, ap, get_or_default}
use Rattle.px_planes.proofs.StoredLemmas.{add_law}
use Rattle.px_planes.proofs.acts.add_tree.Goals as goal

pub returns : goal.returns
returns c =
    let planes = c.args.planes.now in
    let old : c.index_mut.result.now ≡ get_or planes.memory.items c.args.at [] = grind (arith, get_or_default) in
    add_law c.args.leaves.now planes c.args.at c.add.new.self c.requires.place c.requires.words (c.add.ensures.words
    ∙ (ap length old ∙ c.requires.words.memory c.args.at c.requires.place))
    c.add.new.carry (c.add.ensures.carry_words ∙ c.requires.words.carry)
    (λ p within. rw (← c.words.ensures, ← old) (c.add.ensures.bits p within))
    (λ p within. rw (← old) (c.add.ensures.carry p within))
