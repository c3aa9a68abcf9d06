-- Arrays on which operations were made at once, compared with those on which their micros were made.
use Rattle.px_num.proofs.Basics.{◌≡◌, ℕ, ◌+◌, ◌*◌, ◌/◌, ◌%◌, ◌^◌, ◌<◌, ◌&&◌, not, Bool, true, false, ap, ◌∙◌}
use Rattle.px_num.proofs.Basics.{arith, one-le-pow, pow-add}
use Rattle.px_asm.proofs.Words.{Agree, AgreeIn, BecomeTheSame, BecomeTheSameAgain, grid_after_clocks, Known}
use Rattle.px_asm.proofs.Words.{LeaveTheMeaning, micros, none_known, pixel_at, pixel_of, PixelBits, State}
use Rattle.px_asm.proofs.Words.{StayInAgreement, StayKnown}
use Rattle.px_asm.proofs.AlikeLemmas.{Alike, all_micros_alike, same_state}
use Rattle.px_asm.proofs.KeptLemmas.{kept_by_micros}

-- pixels by their places
pub alike_places : (bits nx ny : ℕ) (s t : State) → Agree bits nx ny s t → Alike bits nx ny none_known s t
alike_places bits nx ny s t h = record {
  first = h.first;
  second = h.second;
  pixels = λ place inside.
      let split : 2 ^ (nx + ny) ≡ 2 ^ nx * 2 ^ ny = pow-add 2 nx ny in
      let x = place / 2 ^ ny in
      let y = place % 2 ^ ny in
      let whole : x * 2 ^ ny + y ≡ place = whole_of place (2 ^ ny) in
      let column : x < 2 ^ nx = column_of place (2 ^ nx) (2 ^ ny) (rw split at inside) in
      let row : y < 2 ^ ny = row_of place ny in
      let same = h.pixels x y column row in
      let s_at : pixel_of s x y ≡ pixel_at s place =
      ap (λ rows. pixel_at s (x * 2 ^ rows + y)) h.first.rows ∙ ap (pixel_at s) whole in
      let t_at : pixel_of t x y ≡ pixel_at t place =
      ap (λ rows. pixel_at t (x * 2 ^ rows + y)) h.second.rows ∙ ap (pixel_at t) whole in
      let bits = rw (s_at, t_at) at same in
      record {
        memory = ap (λ (b : PixelBits). b.memory) bits;
        enable = ap (λ (b : PixelBits). b.enable) bits;
        carry = λ e. absurd (no e);
        latch = λ e. absurd (no e);
      };
  tree = λ e. absurd (no e);
}
  where
    no : false ≡ true → ⊥
    no e = cc

    whole_of : (place n : ℕ) → place / n * n + place % n ≡ place
    whole_of place n = grind arith

    column_of : (place m n : ℕ) → place < m * n → place / n < m
    column_of place m n inside = grind arith

    row_of : (place ny : ℕ) → place % 2 ^ ny < 2 ^ ny
    row_of place ny = omega (arith, one-le-pow ny 2 (omega arith))

pub become_the_same : BecomeTheSame
become_the_same bits nx ny ops lawful s t h all =
    same_state bits nx ny _ _
    (rw all at (all_micros_alike bits nx ny ops lawful none_known s t (alike_places bits nx ny s t h)))

pub stay_in_agreement : LeaveTheMeaning → StayInAgreement
stay_in_agreement law bits nx ny sizes op lawful before now s agree done = record {
  first = rw (agree.first.columns, agree.first.rows) at done.grid;
  second = grid_after_clocks bits nx ny (micros op nx ny) s agree.second;
  pixels = grind arith;
}

-- ---- where more is known

alike_in : (bits nx ny : ℕ) (k : Known) (s t : State) → AgreeIn k bits nx ny s t → Alike bits nx ny k s t
alike_in bits nx ny k s t h =
    let all = alike_places bits nx ny s t h.agree in
    grind arith

pub become_the_same_again : BecomeTheSameAgain
become_the_same_again bits nx ny ops lawful k s t h all =
    same_state bits nx ny _ _ (rw all at (all_micros_alike bits nx ny ops lawful k s t (alike_in bits nx ny k s t h)))

known_and_left : (a b : Bool) → (a && not b) ≡ true → (a ≡ true) × (b ≡ false)
known_and_left a b e = grind arith

pub stay_known : LeaveTheMeaning → StayKnown
stay_known law bits nx ny sizes op lawful k before now s h done =
    let made = kept_by_micros bits nx ny op s h.agree.second in
    grind (arith, stay_in_agreement, known_and_left)
