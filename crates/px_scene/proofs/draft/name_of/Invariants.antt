use Rattle.px_num.proofs.Basics.{◌≡◌, take}
use Rattle.px_scene.proofs.draft.name_of.Given as goal

abbrev pub invariant-loop-byte : goal.invariant-loop-byte
invariant-loop-byte l = l.name.items ≡ take l.byte-index l.word
