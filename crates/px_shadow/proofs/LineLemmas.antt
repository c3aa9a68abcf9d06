-- The first bad line, and the lights of the lines before it.
use Rattle.px_num.proofs.Basics.{nat_tests, common_steps, ◌≡◌, ◌<◌, ◌≤◌, ◌+◌, ◌∙◌, ℕ, Bool, true, false, ◌&&◌, List, []}
use Rattle.px_num.proofs.Basics.{◌∷◌, ◌++◌, All, Some, None, length, map, take, get_or, nat_lt, cond, refl, ap, sym}
use Rattle.px_num.proofs.Basics.{arith, if◌then◌else◌, length-take-le, filter_map, fold, list_all, get_or-map, take_all}
use Rattle.px_num.proofs.Basics.{take_more, filter_map-append, Ok, Err, OnOk, Result, codes, not, bytes_eq}
use Rattle.px_shadow.proofs.Words.{all_good, and_left, and_right, AreGood, AreRead, as_light, empty, first_is}
use Rattle.px_shadow.proofs.Words.{good_next, is_name, is_solid_name, IsBelow, light_fault_behind, light_in, light_of}
use Rattle.px_shadow.proofs.Words.{LightFault, lights_fault, lights_of, line_fault, lt_holds, lt_true, named, one}
use Rattle.px_shadow.proofs.Words.{set_of, sets_joined, solid_named, solids, solids_laws, SolidSet, SolidView, Words}
use Rattle.px_shadow.proofs.Words.{words_of}
use Rattle.std.specs.List.{cons_option}
use Rattle.px_show.specs.declared.fault.Cause.TheVariants.{BadName, Unexpected, UnknownName}

-- one line more
pub lights_more : (ss : List SolidView) (lines : List Words) (k : ℕ) → k < length lines →
    lights_of ss (take (k + 1) lines) ≡ lights_of ss (take k lines)
    ++ cons_option (light_in (light_of ss (get_or lines k []))) []
lights_more ss lines k low = grind (arith, nat_tests, common_steps, take_more, filter_map-append)

both_true : (a b : Bool) → a ≡ true → b ≡ true → (a && b) ≡ true
both_true a b p q = rw (p, q) refl

-- a set of solids that pass a test
set_passes : (test : ℕ → Bool) → ((q : ℕ) → test q ≡ true → q < 256) → (qs : List ℕ) (a : SolidSet) →
    list_all test (solids a) ≡ true → list_all test qs ≡ true
    → list_all test (solids (fold (λ set q. sets_joined set (one q)) a qs)) ≡ true
set_passes test low [] a held each = held
set_passes test low (q ∷ qs) a held each =
    let here : test q ≡ true = and_left (test q) (list_all test qs) each in
    set_passes test low qs (sets_joined a (one q))
    (solids_laws.all_of_joined test a (one q) ∙ both_true _ _ held (solids_laws.all_of_one test q (low q here) ∙ here))
    (and_right (test q) (list_all test qs) each)

-- the place of a solid is below their number
pub place_low : (ss : List SolidView) (w : List ℕ) (k : ℕ) → solid_named ss w ≡ Some k → k < length ss
place_low ss w k e = grind (arith, cond, lt_holds)

places_low : (ss : List SolidView) (ws : Words) → list_all (λ q. nat_lt q (length ss))
    (filter_map (solid_named ss) ws) ≡ true
places_low ss [] = refl
places_low ss (w ∷ ws) = grind (arith, both_true, lt_true, place_low, places_low ss ws)

set_known : (ss : List SolidView) → length ss ≤ 255 → (ws : Words)
    → IsBelow (length ss) (set_of (filter_map (solid_named ss) ws))
set_known ss few ws q low h =
    let test : ℕ → Bool = λ q. nat_lt q (length ss) in
    let passes = set_passes test (λ q e. omega (arith, lt_holds q (length ss) e, few))
    (filter_map (solid_named ss) ws) empty (solids_laws.all_of_none test) (places_low ss ws) in
    lt_holds q (length ss) ((solids_laws.each test (set_of (filter_map (solid_named ss) ws))).0 passes q low h)

-- a light has solids of the scene alone
pub light_known : (ss : List SolidView) → length ss ≤ 255 → (line : Words) (set : SolidSet)
    → light_of ss line ≡ Ok (Some set) → IsBelow (length ss) set
light_known ss few [] set e = absurd (cc)
light_known ss few (w ∷ ws) set e = by_first (bytes_eq w (codes "light")) ws e
  where
    by_tests : (ws : Words) (n k : Bool) → as_light (if not n then Err BadName else if not k then Err UnknownName else
        Ok (set_of (filter_map (solid_named ss) ws))) ≡ Ok (Some set) → IsBelow (length ss) set
    by_tests ws true true h = grind (arith, set_known)
    by_tests ws true false h = absurd (cc)
    by_tests ws false k h = absurd (cc)

    by_names : (ws : Words) → as_light (named ss ws) ≡ Ok (Some set) → IsBelow (length ss) set
    by_names [] h = absurd (cc)
    by_names (v ∷ vs) h = by_tests (v ∷ vs) (list_all is_name (v ∷ vs)) (list_all (is_solid_name ss) (v ∷ vs)) h

    by_first : (b : Bool) (ws : Words) → (if b then as_light (named ss ws) else Err Unexpected) ≡ Ok (Some set)
        → IsBelow (length ss) set
    by_first true ws h = by_names ws h
    by_first false ws h = absurd (cc)

-- a line by its piece
pub line_at : (pieces : List (List ℕ)) (k : ℕ) (piece : List ℕ) → k < length pieces → piece ≡ get_or pieces k piece
    → get_or (map words_of pieces) k [] ≡ words_of piece
line_at pieces k piece low is = get_or-map words_of pieces k piece [] low ∙ ap words_of (sym is)

-- the number of a line and the lights before it judge it
judged : (ss : List SolidView) (first : ℕ) (lines : List Words) (k line : ℕ) (old : List SolidSet) (ws : Words)
    → k < length lines → line ≡ first + k → old ≡ lights_of ss (take k lines)
    → light_fault_behind ss first (take k lines) ws ≡ line_fault line (length old) (light_of ss ws)
judged ss first lines k line old ws low number each = grind (arith, length-take-le)

-- a line that is taken
pub step_good : (ss : List SolidView) (first : ℕ) (lines : List Words) (k line : ℕ) (old : List SolidSet) (ws : Words)
    → k < length lines → get_or lines k [] ≡ ws →
    line ≡ first + k → old ≡ lights_of ss (take k lines) → AreGood (light_fault_behind ss first) lines k →
    line_fault line (length old) (light_of ss ws) ≡ None → AreGood (light_fault_behind ss first) lines (k + 1)
step_good ss first lines k line old ws low is number each before here =
    grind (arith, nat_tests, common_steps, good_next, judged)

-- a line that is bad
pub step_bad : (ss : List SolidView) (first : ℕ) (lines : List Words) (k line : ℕ) (old : List SolidSet) (ws : Words)
    (fault : LightFault) → k < length lines → get_or lines k [] ≡ ws →
    line ≡ first + k → old ≡ lights_of ss (take k lines) → AreGood (light_fault_behind ss first) lines k →
    line_fault line (length old) (light_of ss ws) ≡ Some fault → lights_fault ss first lines ≡ Some fault
step_bad ss first lines k line old ws fault low is number each before here = grind (arith, first_is, judged)

pub step_each : (ss : List SolidView) (lines : List Words) (k : ℕ) (old now : List SolidSet) (ws : Words)
    → k < length lines → get_or lines k [] ≡ ws → old ≡ lights_of ss (take k lines)
    → now ≡ old ++ cons_option (light_in (light_of ss ws)) [] → now ≡ lights_of ss (take (k + 1) lines)
step_each ss lines k old now ws low is each more = grind (arith, lights_more)

-- all lines are taken
pub all_read : (ss : List SolidView) (first : ℕ) (lines : List Words) (k : ℕ) (lights : List SolidSet)
    → k ≡ length lines → AreGood (light_fault_behind ss first) lines k → lights ≡ lights_of ss (take k lines)
    → All (IsBelow (length ss)) lights → AreRead ss first lines lights
all_read ss first lines k lights all good each known = grind (arith, all_good, take_all)

-- one light more
pub more_known : (n : ℕ) (old now : List SolidSet) (light : SolidSet) → All (IsBelow n) old → IsBelow n light
    → now ≡ old ++ light ∷ [] → All (IsBelow n) now
more_known n old now light held here is = grind (arith, nat_tests, common_steps)

pub on_ok : {T E P Q : Type 0} (r : Result T E) → OnOk r P → (P → Q) → OnOk r Q
on_ok (Ok x) p f = f p
on_ok (Err x) p f = tt
