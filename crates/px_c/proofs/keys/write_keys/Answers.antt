use Rattle.px_num.proofs.Basics.{arith, common_steps}
use Rattle.px_c.proofs.BufferLemmas.{rows_stored}
use Rattle.px_c.proofs.keys.write_keys.Goals as goal

pub write_numbers-requires-clause-stored : goal.write_numbers-requires-clause-stored
write_numbers-requires-clause-stored g c =
    rows_stored _ c.args.scene.now _ _ c.laws_of_scenes.ensures.scene c.requires.drawn
    (grind (arith, common_steps)) (grind (arith, common_steps)) (grind (arith, common_steps))

pub write_numbers-requires-2-clause-stored : goal.write_numbers-requires-2-clause-stored
write_numbers-requires-2-clause-stored g c =
    rows_stored _ c.args.scene.now _ _ c.laws_of_scenes.ensures.scene c.requires.drawn
    (grind (arith, common_steps)) (grind (arith, common_steps)) (grind (arith, common_steps))
