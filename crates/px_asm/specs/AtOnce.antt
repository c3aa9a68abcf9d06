-- Operations that are made at once before others. Only proofs and private functions stand on it.
use Rattle.std.specs.Prelude.{◌≡◌, ◌||◌, List}
use Rattle.px_asm.specs.Operated.{Known, all_known, all_renewed, untouched}
use Rattle.px_asm.specs.declared.operating.Renewal.{Renewal}
use Rattle.px_macro.specs.declared.operation.Macro.{Macro}

-- what code finds of the tree, the carry and the latch
abbrev pub known_of : Renewal → Known
known_of r = record { tree = r.tree; carry = r.carry; latch = r.latch }

-- what is known by either
abbrev pub joined : (k j : Known) → Known
joined k j = record { tree = k.tree || j.tree; carry = k.carry || j.carry; latch = k.latch || j.latch }

-- the operations after one that is made at once reset all that it does
abbrev pub IsOvertaken : Macro → (rest : List Macro) → Type 0
IsOvertaken op rest = all_renewed rest (untouched op all_known) ≡ all_known
