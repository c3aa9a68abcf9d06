use Rattle.px_num.proofs.Basics.{◌≡◌, ◌+◌, All, length, take}
use Rattle.px_shadow.proofs.Words.{AreGood, IsBelow, light_fault_behind, lights_of, pieces_of}
use Rattle.px_shadow.proofs.light.read_pieces.Given as goal

-- no line so far is bad, and their lights are read
abbrev pub invariant-loop-piece : goal.invariant-loop-piece
invariant-loop-piece l = record {
  good : AreGood (light_fault_behind l.scene.solids l.first_line) (pieces_of l.text) (length l.yielded);
  each : l.lights.items ≡ lights_of l.scene.solids (take (length l.yielded) (pieces_of l.text));
  known : All (IsBelow (length l.scene.solids)) l.lights.items;
  line : l.line ≡ l.first_line + length l.yielded;
}
