use Rattle.px_state.proofs.Cited.{ap, arith, cases_eq, inl, inr, leaves_at, nat_bit, sym, ◌+◌, ◌<◌, ◌∙◌}
use Rattle.px_state.proofs.ActingLemmas.{same_pixel}
use Rattle.px_state.proofs.ShapeLemmas.{kept_both}
use Rattle.px_state.proofs.acting.act_all.Goals as goal

pub loop-k-preserved : goal.loop-k-preserved
loop-k-preserved c =
    let before = c.loop-k.invariant in
    let act = c.act_word.ensures in
    let shape = c.args.shape.now in
    let plane = shape.plane in
    let k = c.loop-k.k in
    let in_plane : k < plane = c.loop-k-test.true in
    record {
      done = λ j low i p bit long is. elim (cases_eq j k) [
        | inl same ↦
            let leaf = ap (λ w. nat_bit w i) (before.kept.others (leaves_at shape + k) (inr (omega arith))) in
            rw (same, sym leaf) (act.acted i p bit long (same_pixel shape.bits plane k i c.args.words.now c.loop-k.words p
            (λ b below. before.rest b k (omega arith) in_plane) (rw same at is)))
        | inr other ↦
            let within : j < plane = omega (arith, in_plane, low) in
            same_pixel shape.bits plane j i c.loop-k.words c.act_word.new.words _
            (λ b below. act.others b j within other) (before.done j (omega (arith, low, other)) i p bit long is)
      ];
      rest = λ b j high within. act.others b j within (omega (arith, high)) ∙ before.rest b j (omega (arith, high)) within;
      kept = kept_both before.kept act.kept (omega arith);
    }
