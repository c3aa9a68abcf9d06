use Rattle.px_num.proofs.Basics.{arith, ◌≡◌, ◌∙◌, [], get_or, length, refl, ap, get_or_default}
use Rattle.px_macro.specs.declared.operation.Macro.TheVariants.{SetBit}
use Rattle.px_planes.proofs.OperationLemmas.{stored_in_rows}
use Rattle.px_planes.proofs.row_operations.set_bit.Goals as goal

pub returns : goal.returns
returns c =
    let planes = c.args.planes.now in
    let at = c.args.at in
    let old : c.index_mut.result.now ≡ get_or planes.memory.items at [] = grind (arith, get_or_default) in
    stored_in_rows (SetBit at c.args.v) c.args.ny planes at c.paint.new.self (λ p. c.args.v) c.requires.words
    c.requires.place (c.paint.ensures.words ∙ (ap length old ∙ c.requires.words.memory at c.requires.place))
    (λ p within. rw (← c.words.ensures, ← old) (c.paint.ensures.bits p within)) (λ p. refl)
