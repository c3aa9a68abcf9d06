use Rattle.px_num.proofs.Basics.{◌≡◌, ◌-◌, ◌*◌, ◌≤◌, length, take}
use Rattle.px_debug.specs.Lines.{trace_lines}
use Rattle.px_debug.proofs.trace.trace_text.Given as goal

abbrev pub invariant-loop-i : goal.invariant-loop-i
invariant-loop-i l = record {
  lines : l.text.bytes ≡ trace_lines (l.now - length l.trace.items) (take l.i l.trace.items);
  short : length l.text.bytes ≤ 64 * l.i;
}
