-- What the faces of a solid leave in the memory of a pixel: the parity bit says whether the stored cell is inside.
use Rattle.px_num.proofs.Basics.{◌≡◌, ◌<◌, ◌≤◌, ◌+◌, ◌^◌, ◌∙◌, ℕ, Bool, true, false, ◌&&◌, not, nat_le, List, length}
use Rattle.px_num.proofs.Basics.{slice_set, if◌then◌else◌, refl, ap, arith, get_or-set_same, zero, suc, flat_map, fold}
use Rattle.px_num.proofs.Basics.{range_with_len}
use Rattle.px_shadow.proofs.Words.{after_macros, covers, deep_part, face_count, face_plane, is_inside_at, LayoutView}
use Rattle.px_shadow.proofs.Words.{modulo, number_in, set-set, SolidView, stored_turn, turned_from_false}
use Rattle.px_num.specs.Forms.{value_at}
use Rattle.px_face.specs.Covering.{is_passed_at}
use Rattle.px_face.proofs.CoveringLemmas.{covered_once}
use Rattle.px_face.proofs.ParityLemmas.{odd_inside_at}
use Rattle.px_macro.proofs.MacroLemmas.{meanings_join}
use Rattle.px_face.proofs.ParityLaws.{turned_is_odd, turned_where}
use Rattle.px_sched.proofs.BridgeLemmas.{pixel, signed}
use Rattle.px_sched.proofs.CoverLaws.{and_same, at_most_is, covering_value}

module _ (s : SolidView) (end x y : ℕ) where
  module _ (l : LayoutView) (memory : List Bool) (room : l.par < length memory)
      (apart : (v : Bool) → number_in (deep_part l l.key_b) (slice_set memory l.par v)
      ≡ number_in (deep_part l l.key_b) memory)
      (big : end < 2 ^ (deep_part l l.key_b).len) where
    abbrev stored : ℕ
    stored = number_in (deep_part l l.key_b) memory

    abbrev passed : ℕ → Bool
    passed i = is_passed_at s end x y stored i

    -- the memory with a parity
    abbrev with_parity : Bool → List Bool
    with_parity odd = slice_set memory l.par odd

    turned_memory : (c odd now : Bool) → now ≡ odd →
        (if c then slice_set (with_parity odd) l.par (not now) else with_parity odd)
        ≡ with_parity (if c then not odd else odd)
    turned_memory true odd now e = rw e (set-set memory l.par odd (not odd))
    turned_memory false odd now e = refl

    one_turned : (i : ℕ) → i < face_count s → (odd e : Bool) →
        (after_macros (stored_turn l end s i) x y (pixel (with_parity odd) e)).memory
        ≡ with_parity (turned_where passed odd i)
    one_turned i there odd e =
        let c = covers s end i x y in
        let v = value_at (face_plane s end i) x y in
        let test : (c && nat_le (modulo v (deep_part l l.key_b).len)
        (number_in (deep_part l l.key_b) (with_parity odd))) ≡ passed i =
        ap (λ n. c && nat_le (modulo v (deep_part l l.key_b).len) n) (apart odd)
        ∙ and_same c _ _ (λ h. at_most_is v end (deep_part l l.key_b).len stored big
        (covering_value end s x y i there h)) in
        grind (arith, signed, turned_memory, get_or-set_same, meanings_join)

    some_turned : (a n : ℕ) → a + n ≤ face_count s → (odd e : Bool) →
        (after_macros (flat_map (stored_turn l end s) (range_with_len a n)) x y (pixel (with_parity odd) e)).memory
        ≡ with_parity (fold (turned_where passed) odd (range_with_len a n))
    some_turned a zero within odd e = refl
    some_turned a (suc n) within odd e =
        let next = after_macros (stored_turn l end s a) x y (pixel (with_parity odd) e) in
        grind (
          arith,
          meanings_join,
          one_turned,
          some_turned (a + 1) n (omega arith) (turned_where passed odd a)
              next.enable,
        )

    -- an odd number of faces is passed where the stored cell is inside
    pub all_turned : (e : Bool) →
        (after_macros (flat_map (stored_turn l end s) (range_with_len 0 (face_count s))) x y
        (pixel (with_parity false) e)).memory
        ≡ with_parity (is_inside_at s end x y stored)
    all_turned e =
        let odd = odd_inside_at s end x y (covered_once s end x y) in
        grind (arith, some_turned, turned_is_odd, turned_from_false, odd)
