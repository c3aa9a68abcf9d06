use Rattle.px_num.proofs.Basics.{◌≡◌, ◌++◌, length, take, flat_map}
use Rattle.px_model.specs.Scenes.{names_of}
use Rattle.px_commands.specs.Plans.{kept_line, product_line}
use Rattle.px_commands.proofs.plan.plan_text.Given as goal

abbrev pub invariant-loop-product : goal.invariant-loop-product
invariant-loop-product l = l.text.items ≡ kept_line (length l.kept) l.all
    ++ flat_map (product_line (names_of l.solids)) (take l.product-index l.kept)
