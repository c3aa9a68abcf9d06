-- The trace that a session shows, of the last broadcasts before its clock.
use Rattle.px_num.proofs.Basics.{◌≡◌, ℕ, ◌-◌, ◌≤◌, length, length-drop, min, refl, arith}
use Rattle.px_debug.proofs.Words.{Buffer, buffer, length-take, Micro, program, SceneView, total, trace_text}
use Rattle.px_debug.specs.Lines.{trace_lines}
use Rattle.px_debug.specs.Marks.{last_before}

-- the broadcasts before a clock are 32, or all of them
pub short_trace : (scene : SceneView) (now : ℕ) → now ≤ total scene → length (last_before scene now) ≡ min 32 now
unfolding last_before
short_trace scene now within = grind (arith, program, length-take, length-drop)

last_lines : (scene : SceneView) (now : ℕ) → trace_lines (now - 32) (last_before scene now) ≡ trace_text scene now
unfolding last_before
last_lines scene now = refl

pub traced_text : (scene : SceneView) (now : ℕ) (b : Buffer Micro) → now ≤ total scene
    → b ≡ buffer (last_before scene now) 32 → trace_lines (now - length b.items) b.items ≡ trace_text scene now
traced_text scene now b within is = grind (arith, short_trace, last_lines)
