-- What the passes of one literal leave, and what all of them leave.
use Rattle.px_num.proofs.Basics.{◌≡◌, ◌<◌, ◌≤◌, ◌+◌, ◌-◌, ◌*◌, ◌^◌, ℕ, Bool, true, false, ◌&&◌, [], nat_lt, min, List}
use Rattle.px_num.proofs.Basics.{◌∷◌, ◌++◌, length, eqb, map, refl, ap, sym, ◌∙◌, arith, inl, inr, if◌then◌else◌, fold}
use Rattle.px_num.proofs.Basics.{flat_map, list_all, range_with_len, fold-map, cases_Bool, cases_lt, fold-append}
use Rattle.px_sched.proofs.Words.{after_step, after_steps, and_both, and_false, and_left, and_true, Candidate}
use Rattle.px_sched.proofs.Words.{candidate_faces, cell_of, confirm, covering_back, covering_front, covered_once}
use Rattle.px_sched.proofs.Words.{covers, Depths, depths_of, dropped, end_of, enters_at, face_number, face_plane}
use Rattle.px_sched.proofs.Words.{is_inside, is_inside_before, is_met, judge, key, KeyedPixel, Keys, leaves_at, Literal}
use Rattle.px_sched.proofs.Words.{literal_at, literal_steps, literals, loaded, lt_fails, lt_false, lt_holds, lt_true}
use Rattle.px_sched.proofs.Words.{Merge, no_literal, others, plus, Product, product_steps, residue, SceneView, solid_of}
use Rattle.px_sched.proofs.Words.{SolidView, steps_with, value_of, where_fraction, without_fraction}
use Rattle.px_sched.proofs.MemberLaws.{by_places}
use Rattle.px_sched.proofs.RunLemmas.{AreKept, classified, judge_keys, part_along, rounded, suits}
use Rattle.px_sched.proofs.CoverLaws.{enters_depth, leaves_depth}
use Rattle.px_sched.proofs.FoldLemmas.{elsewhere, fold_none, fold_single}
use Rattle.px_sched.proofs.ConfirmLemmas.{barred_test, confirmed, plain_test, sure}

-- a candidate face covers the pixel
abbrev pub is_covered : SolidView → (plain : Bool) → (end x y : ℕ) → Bool
is_covered s plain end x y =
    if plain then is_met s end x y
    else (is_met s end x y && nat_lt (covering_back s end x y) (length s.fronts + 1 + length s.backs))

-- that face, with its cell and its number
abbrev pub face_found : SolidView → (plain : Bool) → (end x y : ℕ) → ℕ
face_found s plain end x y = if plain then covering_front s x y else covering_back s end x y

abbrev pub cell_found : SolidView → (plain : Bool) → Depths → (x y : ℕ) → ℕ
cell_found s plain d x y = if plain then cell_of d (enters_at s x y) else cell_of d (leaves_at s (end_of d) x y)

abbrev pub number_found : SolidView → (plain : Bool) → Depths → (x y : ℕ) → ℕ
number_found s plain d x y = face_number s (face_found s plain (end_of d) x y)

-- the solid has a cell at a front, or just before a back
abbrev pub has_cell : SolidView → (plain : Bool) → Depths → (x y c : ℕ) → Bool
has_cell s plain d x y c = if plain then is_inside s d x y c else is_inside_before s d x y c

-- a candidate face covers the pixel, and the solid has a cell there
abbrev pub is_found : SolidView → (plain : Bool) → Depths → (x y : ℕ) → Bool
is_found s plain d x y = is_covered s plain (end_of d) x y && has_cell s plain d x y (cell_found s plain d x y)

abbrev pub suited_at : SceneView → KeyedPixel → (v : ℕ) → Literal → Bool
suited_at scene l v r = suits (solid_of scene r.solid) r.plain (end_of (depths_of scene)) l.x l.y v

abbrev pub suited : SceneView → KeyedPixel → (z : ℕ) → Literal → Bool
suited scene l z r = suited_at scene l (value_of (depths_of scene) z) r

-- the key of a literal's candidate, where it stays alive
abbrev pub keys_found : SceneView → KeyedPixel → Product → Literal → List ℕ
keys_found scene l product q =
    let s = solid_of scene q.solid
    in let d = depths_of scene
    in let z = cell_found s q.plain d l.x l.y
    in if is_found s q.plain d l.x l.y && list_all (suited scene l z) (others q product)
    then key l (value_of d z) (number_found s q.plain d l.x l.y) ∷ [] else []

abbrev pub all_found : SceneView → KeyedPixel → List Product → List ℕ
all_found scene l products = flat_map (λ product. flat_map (keys_found scene l product) (literals product)) products

fold-flat_map : {X Y Z : Type 0} (f : Z → Y → Z) (g : X → List Y) (xs : List X) (a : Z)
    → fold (λ b x. fold f b (g x)) a xs ≡ fold f a (flat_map g xs)
fold-flat_map f g [] a = refl
fold-flat_map f g (x ∷ xs) a = fold-flat_map f g xs (fold f a (g x)) ∙ sym (fold-append f a (g x) (flat_map g xs))

pick : (c : Bool) (a b : Keys) → (if c then a else b).best ≡ (if c then a.best else b.best)
pick true a b = refl
pick false a b = refl

-- where a live candidate is less, its key is the best
abbrev merged : KeyedPixel → Keys → ℕ
merged l k = if k.alive && nat_lt (key l k.deep k.number) k.best then key l k.deep k.number else k.best

merge_best : (scene : SceneView) (l : KeyedPixel) (k : Keys) → (after_step scene l k Merge).best ≡ merged l k
merge_best scene l k =
    pick (k.alive && nat_lt (key l k.deep k.number) k.best) (record k { best = key l k.deep k.number }) k

module _ (scene : SceneView) (l : KeyedPixel) where
  abbrev d : Depths
  d = depths_of scene

  abbrev far : ℕ
  far = end_of d

  -- the candidate of a literal
  candidates_keys : (solid : ℕ) (plain : Bool) (k : Keys) → let s = solid_of scene solid in
      after_steps scene l k (map (Candidate solid) (candidate_faces s plain))
      ≡ (if is_covered s plain far l.x l.y then loaded scene l s k (face_found s plain far l.x l.y) else k)
  candidates_keys solid true k =
      let s = solid_of scene solid in
      let law = covered_once s far l.x l.y in
      let nf = length s.fronts + 1 in
      let t : ℕ → Bool = λ i. covers s far i l.x l.y in
      fold-map (after_step scene l) (Candidate solid) k (range_with_len 0 nf)
      ∙ fold_single t (loaded scene l s) k 0 nf (covering_front s l.x l.y) (is_met s far l.x l.y)
      (λ i low high. law.fronts i (lt_true i nf (omega arith)))
      (omega arith) (omega (arith, lt_holds (covering_front s l.x l.y) nf law.front.there))
  candidates_keys solid false k =
      let s = solid_of scene solid in
      let law = covered_once s far l.x l.y in
      let nf = length s.fronts + 1 in
      let nb = length s.backs in
      let kb = covering_back s far l.x l.y in
      let m = is_met s far l.x l.y in
      let t : ℕ → Bool = λ i. covers s far i l.x l.y in
      let back : (i : ℕ) → nf ≤ i → i < nf + nb → t i ≡ (m && eqb i kb) =
      λ i low high. law.backs i (omega arith) (lt_false i nf low) in
      fold-map (after_step scene l) (Candidate solid) k (range_with_len nf nb)
      ∙ elim (cases_lt kb (nf + nb)) [
        | inl numbered ↦ rw (lt_true kb (nf + nb) numbered, and_true m) (fold_single t (loaded scene l s) k nf nb kb m
            back (lt_fails kb nf law.back.behind) numbered)
        | inr limit ↦ rw (lt_false kb (nf + nb) limit, and_false m) (fold_none t (loaded scene l s) k nf nb
            (λ i low high. back i low high
            ∙ elsewhere m i (nf + nb) kb high limit))
      ]

  abbrev classified_by : Keys → Literal → Keys
  classified_by k r = classified l far (solid_of scene r.solid) r.plain k

  -- what the other literals leave
  judged : (rs : List Literal) (k : Keys) → AreKept (list_all (suited_at scene l k.deep) rs) k (fold classified_by k rs)
  judged [] k = record { best = refl; deep = refl; number = refl; alive = sym (and_true k.alive) }
  judged (r ∷ rs) k = grind (arith, and_both, judged rs (classified_by k r))

  record HasKey (k : Keys) (deep number : ℕ) : Type 0 where
    is_deep : k.deep ≡ deep
    is_number : k.number ≡ number

  ended : (new : Keys) (b deep n : ℕ) (alive a : Bool) (rs : List Literal) → new.best ≡ b → new.alive ≡ alive
      → (alive ≡ true → HasKey new deep n) → list_all (suited_at scene l deep) rs ≡ a
      → merged l (fold classified_by new rs) ≡ fold min b (if alive && a then key l deep n ∷ [] else [])
  ended new b deep n false a rs best dead has tested = grind (arith, judged)
  ended new b deep n true a rs best live has tested = grind (arith, judged)

  -- the depth of a candidate is that of its cell
  loaded_deep : (s : SolidView) (plain : Bool) → is_covered s plain far l.x l.y ≡ true
      → without_fraction scene (residue scene l
      (plus (face_plane s far (face_found s plain far l.x l.y)) (2 ^ d.fraction_bits - 1)))
      ≡ value_of d (cell_found s plain d l.x l.y)
  loaded_deep s true met =
      rounded scene l _ _ (covered_once s far l.x l.y).front.value (enters_depth far s l.x l.y met)
  loaded_deep s false both =
      rounded scene l _ _ (covered_once s far l.x l.y).back.value
      (leaves_depth far s l.x l.y (and_left (is_met s far l.x l.y) _ both))

  -- the candidate of a literal that stays alive
  record IsKept (s : SolidView) (plain : Bool) (k new : Keys) : Type 0 where
    best : new.best ≡ k.best
    alive : new.alive ≡ is_found s plain d l.x l.y
    has : is_found s plain d l.x l.y ≡ true → HasKey new (value_of d (cell_found s plain d l.x l.y))
        (number_found s plain d l.x l.y)

  kept : (solid : ℕ) (plain : Bool) (k start new : Keys) → let s = solid_of scene solid in k.alive ≡ false
      → start ≡ (if is_covered s plain far l.x l.y then loaded scene l s k (face_found s plain far l.x l.y) else k)
      → AreKept (sure scene l solid plain start.deep) start new → IsKept s plain k new
  kept solid plain k start new dead is c = let s = solid_of scene solid in
      elim (cases_Bool (is_covered s plain far l.x l.y)) [
        | inl yea ↦ grind (arith, loaded_deep, plain_test, barred_test, and_left)
        | inr nay ↦ grind arith
      ]

  -- what the other literals leave
  judged_keys : (rs : List Literal) (k : Keys)
      → after_steps scene l k (flat_map (judge scene rs) (range_with_len 0 (length rs))) ≡ fold classified_by k rs
  judged_keys rs k =
      let places = range_with_len 0 (length rs) in
      part_along scene l (λ k. k) (judge scene rs) (λ k other. classified_by k (literal_at rs other))
      (λ other k. judge_keys scene l rs other k) places k
      ∙ sym (fold-map classified_by (literal_at rs) k places)
      ∙ ap (fold classified_by k) (by_places no_literal rs)

  -- the steps of one literal
  literal_best : (product : Product) (q : Literal) (k : Keys)
      → (after_steps scene l k (literal_steps scene q (others q product))).best
      ≡ fold min k.best (keys_found scene l product q)
  literal_best product q k =
      let s = solid_of scene q.solid in
      let rs = others q product in
      let z = cell_found s q.plain d l.x l.y in
      let step = after_step scene l in
      let tests = flat_map (judge scene rs) (range_with_len 0 (length rs)) in
      let sure = where_fraction d (confirm scene q) in
      let found = map (Candidate q.solid) (candidate_faces s q.plain) in
      let start = after_steps scene l (dropped k) found in
      let new = after_steps scene l start sure in
      let r = kept q.solid q.plain (dropped k) start new refl (candidates_keys q.solid q.plain (dropped k))
      (confirmed scene l q.solid q.plain start) in
      ap (λ (k : Keys). k.best) (fold-append step (dropped k) found (sure ++ (tests ++ Merge ∷ []))
      ∙ fold-append step start sure (tests ++ Merge ∷ []) ∙ fold-append step new tests (Merge ∷ []))
      ∙ merge_best scene l (after_steps scene l new tests)
      ∙ ap (merged l) (judged_keys rs new)
      ∙ ended new k.best (value_of d z) (number_found s q.plain d l.x l.y) (is_found s q.plain d l.x l.y)
      (list_all (suited scene l z) rs) rs r.best r.alive r.has refl

  background : far * 2 ^ l.number_bits ≡ key l far 0
  background = omega arith

  -- the steps of all literals of all products
  pub steps_best : (products : List Product) (k : Keys)
      → (after_steps scene l k (steps_with scene products)).best ≡ fold min (key l far 0) (all_found scene l products)
  steps_best products k =
      part_along scene l (λ k. k.best) (product_steps scene)
      (λ b product. fold min b (flat_map (keys_found scene l product) (literals product)))
      (λ product k. part_along scene l (λ k. k.best) (λ q. literal_steps scene q (others q product))
      (λ b q. fold min b (keys_found scene l product q)) (literal_best product) (literals product) k
      ∙ fold-flat_map min (keys_found scene l product) (literals product) k.best)
      products (record k { best = far * 2 ^ l.number_bits })
      ∙ fold-flat_map min (λ product. flat_map (keys_found scene l product) (literals product)) products
      (far * 2 ^ l.number_bits)
      ∙ ap (λ b. fold min b (all_found scene l products)) background
