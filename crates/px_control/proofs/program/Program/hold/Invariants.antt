use Rattle.px_num.proofs.Basics.{◌≡◌, ℕ, ◌+◌, ◌-◌, ◌≤◌, All}
use Rattle.px_control.proofs.Words.{all_made, array_vec_len, Device, IsAt, IsLawful, layout_of, need_of, StandsFor}
use Rattle.px_control.proofs.program.Program.hold.Given as goal

abbrev pub decreases-loop-place : goal.decreases-loop-place
decreases-loop-place l = 512 - array_vec_len l.held

abbrev pub invariant-loop-place : goal.invariant-loop-place
invariant-loop-place l = record {
  stands : StandsFor l.self l.place;
  micro : l.place.micro ≡ 0;
  within : l.fn.place.clock ≤ l.end → l.place.clock ≤ l.end;
  operation : l.place.operation ≡ l.fn.place.operation + array_vec_len l.held;
  lawful : All (λ m. IsLawful m (need_of (layout_of l.self))) l.held.items;
  leads : (bits : ℕ) (d : Device) → IsAt bits l.self l.fn.place.clock d
      → IsAt bits l.self l.place.clock (all_made l.held.items d);
}
