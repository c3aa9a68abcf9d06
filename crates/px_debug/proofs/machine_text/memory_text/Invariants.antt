use Rattle.px_num.proofs.Basics.{◌≡◌, map, take}
use Rattle.px_array.specs.Arrays.{pixel_of}
use Rattle.px_debug.specs.Lines.{digit}
use Rattle.px_debug.proofs.machine_text.memory_text.Given as goal

abbrev pub invariant-loop-at : goal.invariant-loop-at
invariant-loop-at g l = l.text.bytes ≡ map digit
    (take l.at (pixel_of (g.A.Array.view l.array).device.state l.x l.y).memory)
