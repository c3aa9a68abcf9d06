use Rattle.px_num.proofs.Basics.{arith, ◌≡◌, ◌∙◌, [], get_or, length, not, refl, ap, get_or_default}
use Rattle.px_macro.specs.declared.operation.Macro.TheVariants.{Toggle}
use Rattle.px_rows.specs.Rows.{row_bit}
use Rattle.px_planes.proofs.OperationLemmas.{stored_in_rows}
use Rattle.px_planes.proofs.StoredLemmas.{bit_of_rows}
use Rattle.px_planes.proofs.row_operations.toggle.Goals as goal

pub returns : goal.returns
returns c =
    let planes = c.args.planes.now in
    let at = c.args.at in
    let old : c.index_mut.result.now ≡ get_or planes.memory.items at [] = grind (arith, get_or_default) in
    stored_in_rows (Toggle at) c.args.ny planes at c.flip.new.self
    (λ p. not (row_bit (get_or planes.memory.items at []) p))
    c.requires.words c.requires.place
    (c.flip.ensures.words ∙ (ap length old ∙ c.requires.words.memory at c.requires.place))
    (λ p within. rw (← c.words.ensures, ← old) (c.flip.ensures.bits p within))
    (λ p. rw (bit_of_rows planes.memory.items at p c.requires.place) refl)
