use Rattle.px_num.proofs.Basics.{arith, ◌≡◌, [], get_or, set, get_or_default}
use Rattle.px_planes.proofs.WorkLemmas.{put_law}
use Rattle.px_planes.proofs.word_acts.put_word.Goals as goal

pub returns : goal.returns
returns c =
    let planes = c.args.planes.now in
    let at = c.args.at in
    let w = c.args.w in
    let row : c.index.result.now ≡ get_or planes.memory.items at [] = grind (arith, get_or_default) in
    let target : c.index_mut.result.now ≡ get_or planes.memory.items at [] = grind (arith, get_or_default) in
    let new : c.set_word.new.self ≡ set (get_or planes.memory.items at []) w c.chosen_word.result = grind (arith, set)
    in
    let old : c.word-old.result ≡ get_or (get_or planes.memory.items at []) w 0 = grind arith in
    rw new (put_law planes at w c.args.value c.chosen_word.result c.requires.words c.requires.place c.requires.word
    (λ j small. rw (c.word-mask.ensures, old) at (c.chosen_word.ensures j small)))
