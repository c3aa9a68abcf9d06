-- Which candidates stay alive: those of pixels at which their solid has a cell.
use Rattle.px_num.proofs.Basics.{◌≡◌, ◌<◌, ◌+◌, ◌^◌, ◌+ℤ◌, ◌≤ℤ◌, ℕ, zero, suc, ℤ, pos, Bool, true, false, ◌&&◌}
use Rattle.px_num.proofs.Basics.{[], ◌||◌, ◌==◌, inl, inr, not, nat_le, nat_lt, List, ◌∷◌, ◌++◌, length, eqb, map}
use Rattle.px_num.proofs.Basics.{refl, ap, sym, ◌∙◌, arith, if◌then◌else◌, fold, range_with_len, fold-map, fold-append}
use Rattle.px_num.proofs.Basics.{ints, cases_Bool, pow_pos, mul-le-mul, pow-add}
use Rattle.px_sched.proofs.Words.{after_step, after_steps, and_true, cell_is_first, cell_is_least, cell_of, Clear}
use Rattle.px_sched.proofs.Words.{Confirm, covering_back, covering_front, covered_once, covers, Depths, depths_of, Drop}
use Rattle.px_sched.proofs.Words.{dropped, end_is_small, end_of, enters_at, eqb_holds, face_plane, Front, is_inside}
use Rattle.px_sched.proofs.Words.{is_inside_before, is_met, is_passing, KeyedPixel, Keys, le_z, leaves_at, lt_fails}
use Rattle.px_sched.proofs.Words.{lt_false, lt_holds, lt_is_not_le, lt_true, lt_z, modulo, plus, residue, SceneView}
use Rattle.px_sched.proofs.Words.{solid_of, SolidView, Step, turned_from_false, value_at, value_at-plus, value_of}
use Rattle.px_sched.proofs.Words.{where_fraction}
use Rattle.px_num.proofs.TruthLaws.{le_same}
use Rattle.px_sched.proofs.RunLemmas.{AreKept, ended, flips, keys_of, more_at_most}
use Rattle.px_sched.proofs.CoverLaws.{no_fraction, at_most_is, enters_depth, leaves_depth}
use Rattle.px_sched.proofs.FoldLemmas.{fold_single, where_test}

-- a test that adds something where the place is the one
where_here : (met here passed known : Bool) → (met ≡ true → here ≡ true → passed ≡ known) → ((met && here) && passed)
    ≡ ((met && known) && here)
where_here met here passed known h = grind arith

abbrev drop_step : (ℕ → ℕ → Bool) → Keys → ℕ → Keys
drop_step t k i = if k.alive && t k.deep i then dropped k else k

abbrev off : (ℕ → Bool) → Bool → ℕ → Bool
off t = where_test t (λ alive i. false)

drops : (t : ℕ → ℕ → Bool) (k : Keys) (is : List ℕ) → fold (drop_step t) k is
    ≡ record k { alive = fold (off (t k.deep)) k.alive is }
drops t k [] = refl
drops t k (i ∷ is) = grind (arith, drops t (record k { alive = (if t k.deep i then false else k.alive) }) is)

at_most : (u : ℤ) (v : ℕ) → u ≤ℤ pos v → le_z u (pos v) ≡ true
at_most u v h = grind (arith, ints)

whole_value : (d : Depths) (n : ℕ) → (d.fraction_bits == 0) ≡ true → value_of d (cell_of d (pos n)) ≡ n
whole_value d n none = grind (arith, no_fraction)

module _ (scene : SceneView) (l : KeyedPixel) (solid : ℕ) where
  abbrev d : Depths
  d = depths_of scene

  abbrev s : SolidView
  s = solid_of scene solid

  abbrev end : ℕ
  end = end_of d

  abbrev bits : ℕ
  bits = scene.depth_bits + scene.fraction_bits

  small : end < 2 ^ bits
  small = end_is_small scene.depth_bits scene.fraction_bits

  abbrev unit : ℕ
  unit = 2 ^ d.fraction_bits

  abbrev met : Bool
  met = is_met s end l.x l.y

  abbrev enters : ℤ
  enters = enters_at s l.x l.y

  abbrev leaves : ℤ
  leaves = leaves_at s end l.x l.y

  -- of the backs only the covering one can drop
  back_drops : (v i : ℕ) → covers s end i l.x l.y ≡ (met && eqb i (covering_back s end l.x l.y))
      → (covers s end i l.x l.y && nat_le (residue scene l (face_plane s end i)) v)
      ≡ ((met && le_z leaves (pos v)) && eqb i (covering_back s end l.x l.y))
  back_drops v i is =
      rw is (where_here met (eqb i (covering_back s end l.x l.y)) (nat_le (residue scene l (face_plane s end i)) v)
      (le_z leaves (pos v))
      (λ m here.
      ap (λ w. nat_le (modulo w bits) v) (ap (λ j. value_at (face_plane s end j) l.x l.y)
      (eqb_holds i (covering_back s end l.x l.y) here) ∙ (covered_once s end l.x l.y).back.value)
      ∙ at_most_is leaves end bits v small (leaves_depth end s l.x l.y m)))

  -- of the fronts only the covering one can turn
  front_turns : (v i : ℕ) → covers s end i l.x l.y ≡ (met && eqb i (covering_front s l.x l.y))
      → (covers s end i l.x l.y && nat_le (residue scene l (plus (face_plane s end i) unit)) v)
      ≡ ((met && le_z (enters +ℤ pos unit) (pos v)) && eqb i (covering_front s l.x l.y))
  front_turns v i is =
      rw is (where_here met (eqb i (covering_front s l.x l.y))
      (nat_le (residue scene l (plus (face_plane s end i) unit)) v)
      (le_z (enters +ℤ pos unit) (pos v))
      (λ m here.
      let e = enters_depth end s l.x l.y m in
      let below = (covered_once s end l.x l.y).depths m in
      let less : e.depth < end = omega (arith, ints, e.is, below.1, below.2) in
      ap (λ w. nat_le (modulo w bits) v) (value_at-plus (face_plane s end i) unit l.x l.y
      ∙ ap (λ w. w +ℤ pos unit) (ap (λ j. value_at (face_plane s end j) l.x l.y)
      (eqb_holds i (covering_front s l.x l.y) here) ∙ (covered_once s end l.x l.y).front.value))
      ∙ more_at_most enters end bits v e unit (grind (arith, less, pow_pos, mul-le-mul, pow-add))))

  abbrev drop_steps : List Step
  drop_steps = map (Drop solid) (range_with_len (length s.fronts + 1) (length s.backs + 1))

  abbrev turns : List Step
  turns = map (Front solid) (range_with_len 0 (length s.fronts + 1))

  -- a plain solid's candidate stays alive where its depth is before the least back
  confirm_plain : (k : Keys) → after_steps scene l k drop_steps
      ≡ record k { alive = k.alive && not (met && le_z leaves (pos k.deep)) }
  confirm_plain k =
      let law = covered_once s end l.x l.y in
      let nf = length s.fronts + 1 in
      let nb = length s.backs + 1 in
      let kb = covering_back s end l.x l.y in
      let g = met && le_z leaves (pos k.deep) in
      let t : ℕ → ℕ → Bool = λ v i. is_passing scene l s i (face_plane s end i) v in
      fold-map (after_step scene l) (Drop solid) k (range_with_len nf nb)
      ∙ drops t k (range_with_len nf nb)
      ∙ ap (λ a. record k { alive = a })
      (fold_single (t k.deep) (λ alive i. false) k.alive nf nb kb g
      (λ i low high. back_drops k.deep i (law.backs i (omega arith) (lt_false i nf low)))
      (lt_fails kb nf law.back.behind) (omega (arith, law.back.there))
      ∙ grind arith)

  and_here : (a b c g h : Bool) → (b && c) ≡ (g && h) → (a && (b && c)) ≡ ((a && g) && h)
  and_here true b c g h e = e
  and_here false b c g h e = refl

  -- a barred solid's where the greatest front is a whole cell before it, or more
  confirm_barred : (k : Keys)
      → (let g = k.alive && (met && le_z (enters +ℤ pos unit) (pos k.deep)) in
      after_steps scene l k (Clear ∷ turns ++ Confirm ∷ []) ≡ keys_of k.best k.deep k.number g g)
  confirm_barred k =
      let law = covered_once s end l.x l.y in
      let nf = length s.fronts + 1 in
      let kf = covering_front s l.x l.y in
      let g = met && le_z (enters +ℤ pos unit) (pos k.deep) in
      let t : ℕ → ℕ → Bool = λ v i. is_passing scene l s i (plus (face_plane s end i) unit) v in
      let start = record k { par = false } in
      let turned : after_steps scene l start turns ≡ keys_of k.best k.deep k.number k.alive (k.alive && g) =
      fold-map (after_step scene l) (Front solid) start (range_with_len 0 nf)
      ∙ flips t start (range_with_len 0 nf)
      ∙ ap (λ b. keys_of k.best k.deep k.number k.alive b)
      (fold_single (λ i. k.alive && t k.deep i) (λ odd i. not odd) false 0 nf kf (k.alive && g)
      (λ i low high. and_here k.alive (covers s end i l.x l.y)
      (nat_le (residue scene l (plus (face_plane s end i) unit))
      k.deep) g (eqb i kf) (front_turns k.deep i (law.fronts i (lt_true i nf (omega arith)))))
      (omega arith) (omega (arith, lt_holds kf nf law.front.there))
      ∙ turned_from_false (k.alive && g)) in
      grind (arith, fold-append, ended)

  abbrev pub test : (plain : Bool) → (v : ℕ) → Bool
  test plain v = if plain then not (met && le_z leaves (pos v)) else (met && le_z (enters +ℤ pos unit) (pos v))

  abbrev pub sure : (plain : Bool) → (v : ℕ) → Bool
  sure plain v = (d.fraction_bits == 0) || test plain v

  abbrev confirming : (plain : Bool) → List Step
  confirming plain = if plain then drop_steps else (Clear ∷ turns ++ Confirm ∷ [])

  by_kind : (plain : Bool) (k : Keys) → (d.fraction_bits == 0) ≡ false
      → AreKept (sure plain k.deep) k (after_steps scene l k (confirming plain))
  by_kind plain k some = grind (arith, confirm_plain, confirm_barred)

  pub confirmed : (plain : Bool) (k : Keys)
      → AreKept (sure plain k.deep) k (after_steps scene l k (where_fraction d (confirming plain)))
  confirmed plain k = grind (arith, and_true, by_kind)

  -- the cell of a plain solid's candidate
  pub plain_test : (c : ℕ) → cell_of d enters ≡ c → met ≡ true → sure true (value_of d c)
      ≡ is_inside s d l.x l.y c
  plain_test c e m =
      let v = value_of d c in
      let low : le_z enters (pos v) ≡ true = sym (cell_is_first d enters c) ∙ ap (λ n. nat_le n c) e ∙ le_same c in
      let inside : is_inside s d l.x l.y c ≡ not (met && le_z leaves (pos v)) =
      (covered_once s end l.x l.y).values v ∙ rw (m, low) (lt_is_not_le leaves (pos v)) in
      elim (cases_Bool (d.fraction_bits == 0)) [
        | inl none ↦ ap (λ b. b || test true v) none ∙ sym (inside ∙ rw (m, whole none) refl)
        | inr some ↦ ap (λ b. b || test true v) some ∙ sym inside
      ]
    where
      whole : (d.fraction_bits == 0) ≡ true → le_z leaves (pos (value_of d c)) ≡ false
      whole none =
          let is = enters_depth end s l.x l.y m in
          let below = (covered_once s end l.x l.y).depths m in
          let same : value_of d c ≡ is.depth = ap (value_of d) (sym e ∙ ap (cell_of d) is.is)
          ∙ whole_value d is.depth none in
          grind (arith, ints, is.is, below.1, same)

  -- the cell of a barred solid's candidate
  pub barred_test : (c : ℕ) → cell_of d leaves ≡ c → met ≡ true
      → sure false (value_of d c) ≡ is_inside_before s d l.x l.y c
  barred_test c e m = elim (cases_Bool (d.fraction_bits == 0)) [
    | inl none ↦ ap (λ b. b || test false (value_of d c)) none ∙ sym (before c e ∙ rw (m, whole none) refl)
    | inr some ↦ ap (λ b. b || test false (value_of d c)) some ∙ sym (before c e)
  ]
    where
      before : (c : ℕ) → cell_of d leaves ≡ c → is_inside_before s d l.x l.y c
          ≡ (met && le_z (enters +ℤ pos unit) (pos (value_of d c)))
      before zero e = let law = covered_once s end l.x l.y in grind (arith, enters_depth, pow_pos, ints)
      before (suc z) e =
          let high : lt_z (pos (value_of d z)) leaves ≡ true = sym (cell_is_least d leaves z) ∙ ap (λ n. nat_lt z n) e
          ∙ lt_true z (suc z) (omega arith) in
          (covered_once s end l.x l.y).values (value_of d z) ∙ rw (m, high) (grind (arith, ints))

      whole : (d.fraction_bits == 0) ≡ true → le_z (enters +ℤ pos unit) (pos (value_of d c)) ≡ true
      whole none = grind (arith, leaves_depth, covered_once, whole_value, at_most, no_fraction, ints)
