use Rattle.px_state.proofs.Cited.{ap, arith, cases_eq, inl, inr, leaves_at, memory_place, nat_bit, sym, word_bit, ℕ}
use Rattle.px_state.proofs.Cited.{◌*◌, ◌+◌, ◌∙◌}
use Rattle.px_state.proofs.ActingLemmas.{other_bits}
use Rattle.px_state.proofs.ShapeLemmas.{apart, beside}
use Rattle.px_state.proofs.acting.act_word.Goals as goal

pub returns-clause-acted : goal.returns-clause-acted
returns-clause-acted c = λ i p bit long is.
    let shape = c.args.shape.now in
    let bits = shape.bits in
    let plane = shape.plane in
    let k = c.args.k in
    let a = c.args.act.now in
    let at = memory_place a in
    let put = rw c.place_of-at.ensures at c.put_cells.ensures in
    let cell = (rw (
      c.start.ensures.start,
      c.start-2.ensures.start,
      c.start-3.ensures.start,
      c.start-4.ensures.start,
      c.start-5.ensures.start,
      c.place_of-at.ensures,
    ) at (c.acted.ensures i p bit)) (rw long c.requires.place) (record {
      memory = is.memory at c.requires.place;
      enable = is.enable;
      carry = is.carry;
      latch = is.latch;
    }) in
    let here = c.requires.within in
    record {
      memory = λ b below. elim (cases_eq b at) [
        | inl same ↦ rw same (ap (λ w. nat_bit w i) put.memory ∙ cell.memory)
        | inr other ↦
            ap (λ w. nat_bit w i) (put.others (b * plane + k) (apart b at plane k k here here other)
            (apart b bits plane k k here here (omega arith)) (apart b (bits + 1) plane k k here here (omega arith))
            (apart b (bits + 2) plane k k here here (omega arith)))
            ∙ (is.memory b below
            ∙ sym (other_bits (nat_bit shape.full i) a (word_bit c.args.words.now (leaves_at shape + k) i) p b other))
      ];
      enable = ap (λ w. nat_bit w i) put.enable ∙ cell.enable;
      carry = ap (λ w. nat_bit w i) put.carry ∙ cell.carry;
      latch = ap (λ w. nat_bit w i) put.latch ∙ cell.latch;
    }

pub returns-clause-others : goal.returns-clause-others
returns-clause-others c = λ b j within other.
    let plane = c.args.shape.now.plane in
    let apart = λ (at : ℕ). beside b at plane j c.args.k within c.requires.within other in
    c.put_cells.ensures.others (b * plane + j) (apart _) (apart _) (apart _) (apart _)
