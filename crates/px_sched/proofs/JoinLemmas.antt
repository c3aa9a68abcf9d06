-- The least key found is that of the first depth at which the products show something, with the least number there.
use Rattle.px_num.proofs.Basics.{◌≡◌, ◌<◌, ◌≤◌, ◌+◌, ◌*◌, ◌^◌, ◌&&◌, ℕ, nat_le, Bool, true, false, not, nat_lt, List}
use Rattle.px_num.proofs.Basics.{length, min, refl, ap, ◌∙◌, arith, inl, inr, ◌⊎◌, eqb, All, fold, flat_map, list_all}
use Rattle.px_num.proofs.Basics.{cases_Bool}
use Rattle.px_sched.proofs.Words.{and_false, and_left, and_right, AreNumberedFrom, cell_of, has_cells, Depths}
use Rattle.px_sched.proofs.Words.{depths_of, end_of, enters_at, eqb_holds, faces_in, faces_of, far_of, first_of_three}
use Rattle.px_sched.proofs.Words.{holds, is_inside, is_met, IsLawfulSolid, IsNumberedFrom, key, KeyedPixel, leaf_cell}
use Rattle.px_sched.proofs.Words.{leaves_at, Literal, literals, lt_false, lt_holds, lt_true, no_solid, others, Product}
use Rattle.px_sched.proofs.Words.{same_true, SceneView, shows, solid_of, SolidView, some_shows, third_of_three}
use Rattle.px_sched.proofs.Words.{value_of}
use Rattle.px_sched.proofs.RunLemmas.{suits}
use Rattle.px_sched.proofs.BlockLemmas.{all_found, cell_found, is_found, keys_found, number_found, suited}
use Rattle.px_sched.proofs.MemberLaws.{In, all_kept, all_of, any_in, any_out, in_filter, in_flat, in_where, min_below}
use Rattle.px_sched.proofs.MemberLaws.{min_reached, min_start, one_of, out_flat}
use Rattle.px_sched.proofs.LiteralLemmas.{backs_below, barred_seen, fronts_below, plain_seen, plain_shows, barred_shows}
use Rattle.px_sched.proofs.ProductLaws.{IsFit, each_holds, holds_there, numbered_at, shown_of, shows_out, shows_there}

module _ (d : Depths) (s : SolidView) (x y : ℕ) where
  -- what is found at a literal
  record IsCandidate (plain : Bool) : Type 0 where
    within : cell_found s plain d x y ≤ d.far
    suited : suits s plain (end_of d) x y (value_of d (cell_found s plain d x y)) ≡ true
    shown : In (number_found s plain d x y) (shown_of s plain d x y (cell_found s plain d x y))

  not_behind : (c : ℕ) → cell_of d (leaves_at s (end_of d) x y) ≡ c → is_inside s d x y c ≡ false
  not_behind c e =
      (has_cells s d x y).cells c ∙ last_of (is_met s (end_of d) x y) (cell_of d (enters_at s x y))
      (cell_of d (leaves_at s (end_of d) x y)) c e
    where
      last_of : (m : Bool) (first last c : ℕ) → last ≡ c → (m && nat_le first c && nat_lt c last) ≡ false
      last_of false first last c h = refl
      last_of true first last c h = grind (arith, lt_false, and_false)

  is_candidate : (plain : Bool) → is_found s plain d x y ≡ true → IsCandidate plain
  is_candidate plain found =
      grind (arith, and_left, plain_shows, lt_holds, third_of_three, and_right, not_behind, same_true, barred_shows)

  record IsSeen (plain : Bool) (z n : ℕ) : Type 0 where
    found : is_found s plain d x y ≡ true
    cell : cell_found s plain d x y ≡ z
    number : number_found s plain d x y ≤ n

  is_seen : (plain : Bool) (z n : ℕ) → IsLawfulSolid s → suits s plain (end_of d) x y (value_of d z) ≡ true
      → In n (shown_of s plain d x y z) → IsSeen plain z n
  is_seen true z n lawful inside shown =
      let law = has_cells s d x y in
      grind (arith, plain_seen s d x y lawful z n shown, first_of_three)
  is_seen false z n lawful outside shown =
      let r = barred_seen s d x y lawful z n shown in
      let law = has_cells s d x y in
      grind (arith, lt_true)

module _ (scene : SceneView) (lawful : All IsLawfulSolid scene.solids)
    (numbered : AreNumberedFrom 1 scene.solids)
    (l : KeyedPixel) (products : List Product)
    (fit : (p : Product) → In p products → IsFit (length scene.solids) p) where
  abbrev d : Depths
  d = depths_of scene

  abbrev far : ℕ
  far = far_of scene

  -- the products show a face at a depth
  abbrev pub Shows : (z n : ℕ) → Type 0
  Shows z n = some_shows (leaf_cell scene.solids d l.x l.y z) n products ≡ true

  pub record IsShownKey (k : ℕ) : Type 0 where
    pub depth : ℕ
    pub number : ℕ
    pub within : depth ≤ far
    pub shown : Shows depth number
    pub is : k ≡ key l (value_of d depth) number

  -- each key that is found is shown
  sound : (k : ℕ) → In k (all_found scene l products) → IsShownKey k
  sound k h =
      let a = out_flat (λ p. flat_map (keys_found scene l p) (literals p)) products k h in
      let p = a.from in
      let whole = fit p a.there in
      let b = out_flat (keys_found scene l p) (literals p) k a.gives in
      let q = b.from in
      let s = solid_of scene q.solid in
      let z = cell_found s q.plain d l.x l.y in
      let n = number_found s q.plain d l.x l.y in
      let c = in_where (is_found s q.plain d l.x l.y && list_all (suited scene l z) (others q p)) k
      (key l (value_of d z) n) b.gives in
      let here = and_left (is_found s q.plain d l.x l.y) (list_all (suited scene l z) (others q p)) c.0 in
      let found = is_candidate d s l.x l.y q.plain here in
      let each : (r : Literal) → In r (literals p) → suited scene l z r ≡ true =
      λ r there. elim (cases_Bool (eqb r.solid q.solid)) [
        | inl e ↦ ap (suited scene l z) (whole.once q r b.there there (eqb_holds r.solid q.solid e)) ∙ found.suited
        | inr e ↦ grind (arith, one_of, suited, in_filter)
      ] in
      let at = leaf_cell scene.solids d l.x l.y z in
      let shows_p : (holds at p && shows at n p) ≡ true =
      rw (holds_there scene l p whole z each) (shows_there scene l p whole z n q b.there found.shown) in
      grind (arith, any_in)

  record IsFoundKey (z n : ℕ) : Type 0 where
    is : ℕ
    there : In is (all_found scene l products)
    least : is ≤ key l (value_of d z) n
    small : n < 1 + faces_of scene.solids

  -- for each number that is shown a key is found that is no greater
  complete : (z n : ℕ) → z ≤ far → Shows z n → IsFoundKey z n
  complete z n low h =
      let at = leaf_cell scene.solids d l.x l.y z in
      let a = any_out (λ p. holds at p && shows at n p) products h in
      let p = a.from in
      let whole = fit p a.there in
      let all = each_holds scene l p whole z (and_left (holds at p) (shows at n p) a.gives) in
      let b = shows_out scene l p whole z n (and_right (holds at p) (shows at n p) a.gives) in
      let q = b.from in
      let s = solid_of scene q.solid in
      let there = whole.known q b.there in
      let found = is_seen d s l.x l.y q.plain z n (lawful q.solid no_solid there) (all q b.there)
      b.gives in
      let y = cell_found s q.plain d l.x l.y in
      let k = key l (value_of d y) (number_found s q.plain d l.x l.y) in
      let rest : list_all (suited scene l y) (others q p) ≡ true =
      ap (λ t. list_all (suited scene l t) (others q p)) found.cell
      ∙ all_kept (suited scene l z) (λ t. not (eqb t.solid q.solid)) (literals p)
      (all_of (suited scene l z) (literals p) all) in
      let here : In k (keys_found scene l p q) = rw (found.found, rest) (inl refl) in
      record {
        is = k;
        there = in_flat (λ p. flat_map (keys_found scene l p) (literals p)) products p k a.there
            (in_flat (keys_found scene l p) (literals p) q k b.there here);
        least = omega (arith, ap (λ t. 2 ^ l.number_bits * value_of d t) found.cell, found.number);
        small = bounded q there b.gives;
      }
    where
      by_kind : (s : SolidView) (plain : Bool) (first : ℕ) → IsNumberedFrom first s
          → first + faces_in s ≤ 1 + faces_of scene.solids
          → In n (shown_of s plain d l.x l.y z) → n < 1 + faces_of scene.solids
      by_kind s true first numbers le h = omega (arith, le, fronts_below s d first l.x l.y z n numbers h)
      by_kind s false first numbers le h = omega (arith, le, backs_below s d first l.x l.y z n numbers h)

      bounded : (q : Literal) → q.solid < length scene.solids
          → In n (shown_of (solid_of scene q.solid) q.plain d l.x l.y z) → n < 1 + faces_of scene.solids
      bounded q there h =
          let i = numbered_at scene.solids 1 q.solid numbered there in
          by_kind (solid_of scene q.solid) q.plain i.first i.numbers i.within h

  -- the least key found, by what is shown
  pub record IsLeast (b : ℕ) : Type 0 where
    pub background : b ≤ key l (value_of d far) 0
    pub below : (z n : ℕ) → z ≤ far → Shows z n → (b ≤ key l (value_of d z) n) × (n < 1 + faces_of scene.solids)
    pub reached : (b ≡ key l (value_of d far) 0) ⊎ IsShownKey b

  pub best_is_least : IsLeast (fold min (key l (value_of d far) 0) (all_found scene l products))
  best_is_least =
      let found = all_found scene l products in
      record {
        background = min_start (key l (value_of d far) 0) found;
        below = λ z n low h. let r = complete z n low h in
            (omega (arith, min_below (key l (value_of d far) 0) found r.is r.there, r.least), r.small);
        reached = grind (arith, min_reached, sound);
      }
