-- What lists of steps leave of the keys.
use Rattle.px_num.proofs.Basics.{rules, ◌≡◌, ◌<◌, ◌≤◌, ◌+◌, ◌+ℤ◌, ◌-◌, ◌^◌, ℕ, zero, suc, ℤ, pos, Bool, true, false, []}
use Rattle.px_num.proofs.Basics.{◌&&◌, not, nat_le, List, ◌∷◌, map, count_by, refl, ap, sym, ◌∙◌, arith, if◌then◌else◌}
use Rattle.px_num.proofs.Basics.{beq, fold, flat_map, range_with_len, fold-map, fold-append, pow-add, pow_pos}
use Rattle.px_num.proofs.Basics.{mul-le-mul}
use Rattle.px_sched.proofs.Words.{after_step, after_steps, cell_of, covered_once, depths_of, end_is_small, end_of}
use Rattle.px_sched.proofs.Words.{face_count, face_plane, flipped, is_inside_at, is_odd, is_passed_at, is_passing}
use Rattle.px_sched.proofs.Words.{judge, KeyedPixel, Keys, le_z, Literal, literal_at, modulo, SceneView, solid_of}
use Rattle.px_sched.proofs.Words.{SolidView, Step, Turn, turned_from_false, value_of, odd_inside_at, without_fraction}
use Rattle.px_sched.proofs.Words.{Linear, plus, residue, value_at, value_at-plus}
use Rattle.px_face.proofs.ParityLaws.{turned_is_odd, turned_where}
use Rattle.px_sched.proofs.CoverLaws.{and_same, IsDepth, mod_small, le_same, at_most_is, covering_value}

-- a part of the keys after some steps for each element
pub part_along : {X Y : Type 0} (scene : SceneView) (l : KeyedPixel) (part : Keys → Y) (f : X → List Step)
    (g : Y → X → Y) → ((x : X) (k : Keys) → part (after_steps scene l k (f x)) ≡ g (part k) x)
    → (xs : List X) (k : Keys) → part (after_steps scene l k (flat_map f xs)) ≡ fold g (part k) xs
part_along scene l part f g same [] k = refl
part_along scene l part f g same (x ∷ xs) k =
    grind (arith, fold-append, part_along scene l part f g same xs (after_steps scene l k (f x)))

-- folds over a range that do the same at each of its places
pub fold_agree : {S : Type 0} (f g : S → ℕ → S) (a n : ℕ) → ((i : ℕ) → a ≤ i → i < a + n → (s : S) → f s i ≡ g s i)
    → (s : S) → fold f s (range_with_len a n) ≡ fold g s (range_with_len a n)
fold_agree f g a zero same s = refl
fold_agree f g a (suc n) same s =
    fold_agree f g (a + 1) n (λ i low high. same i (omega arith) (omega arith)) (f s a)
    ∙ ap (λ t. fold g t (range_with_len (a + 1) n)) (same a (omega arith) (omega arith) s)

-- a value that is rounded up is that of its cell
pub rounded : (scene : SceneView) (l : KeyedPixel) (form : Linear) (v : ℤ) → let d = depths_of scene in
    value_at form l.x l.y ≡ v → IsDepth v (end_of d)
    → without_fraction scene (residue scene l (plus form (2 ^ d.fraction_bits - 1))) ≡ value_of d (cell_of d v)
rounded scene l form v same is = grind (arith, value_at-plus, pow_pos, mod_small, mul-le-mul, pow-add)

-- keys of which no more than the parity and whether the candidate is alive have changed: it is alive where a test holds
pub record AreKept (test : Bool) (k new : Keys) : Type 0 where
  pub best : new.best ≡ k.best
  pub deep : new.deep ≡ k.deep
  pub number : new.number ≡ k.number
  pub alive : new.alive ≡ (k.alive && test)

-- a value with something added, as a test
pub more_at_most : (v : ℤ) (n bits z : ℕ) (d : IsDepth v n) (more : ℕ) → d.depth + more < 2 ^ bits
    → nat_le (modulo (v +ℤ pos more) bits) z ≡ le_z (v +ℤ pos more) (pos z)
more_at_most v n bits z d more small =
    rw d.is (ap (λ k. nat_le k z) (mod_small (d.depth + more) (2 ^ bits) small) ∙ le_same (d.depth + more) z)

abbrev pub flip_step : (ℕ → ℕ → Bool) → Keys → ℕ → Keys
flip_step t k i = if k.alive && t k.deep i then flipped k else k

pub flips : (t : ℕ → ℕ → Bool) (k : Keys) (is : List ℕ) → fold (flip_step t) k is
    ≡ record k { par = fold (turned_where (λ i. k.alive && t k.deep i)) k.par is }
flips t k [] = refl
flips t k (i ∷ is) = grind (arith, flips t (record k { par = if (k.alive && t k.deep i) then not k.par else k.par }) is)

alive_odd : (a : Bool) (t : ℕ → Bool) (is : List ℕ)
    → fold (turned_where (λ i. a && t i)) false is ≡ (a && is_odd (count_by t is))
alive_odd true t is = turned_is_odd t false is ∙ turned_from_false (is_odd (count_by t is))
alive_odd false t [] = refl
alive_odd false t (i ∷ is) = alive_odd false t is

-- a candidate at depth z is where a literal needs it
abbrev pub suits : SolidView → (plain : Bool) → (end x y z : ℕ) → Bool
suits s plain end x y z = if plain then is_inside_at s end x y z else not (is_inside_at s end x y z)

abbrev pub keys_of : ℕ → ℕ → ℕ → Bool → Bool → Keys
keys_of b d n a p = record { best = b; deep = d; number = n; alive = a; par = p }

abbrev pub classified : KeyedPixel → (end : ℕ) → SolidView → (plain : Bool) → Keys → Keys
classified l end s plain k =
    keys_of k.best k.deep k.number (k.alive && suits s plain end l.x l.y k.deep)
    (k.alive && is_inside_at s end l.x l.y k.deep)

pub ended : (b d n : ℕ) (a inside plain : Bool)
    → (if beq (a && inside) (not plain) then keys_of b d n false (a && inside) else keys_of b d n a (a && inside))
    ≡ keys_of b d n (a && (if plain then inside else not inside)) (a && inside)
ended b d n a inside plain = grind arith

module _ (scene : SceneView) (l : KeyedPixel) where
  abbrev end : ℕ
  end = end_of (depths_of scene)

  passed : (s : SolidView) (i z : ℕ) → i < face_count s
      → is_passing scene l s i (face_plane s end i) z ≡ is_passed_at s end l.x l.y z i
  passed s i z there =
      let small = end_is_small scene.depth_bits scene.fraction_bits in
      search (rules, and_same, at_most_is, covering_value)

  -- a candidate that another literal judges
  pub judge_keys : (rs : List Literal) (other : ℕ) (k : Keys) → let r = literal_at rs other in
      after_steps scene l k (judge scene rs other) ≡ classified l end (solid_of scene r.solid) r.plain k
  judge_keys rs other k =
      let r = literal_at rs other in
      let s = solid_of scene r.solid in
      let n = face_count s in
      let start = record k { par = false } in
      let turns = map (Turn other r.solid) (range_with_len 0 n) in
      let t : ℕ → ℕ → Bool = λ z i. is_passing scene l s i (face_plane s end i) z in
      let u : ℕ → ℕ → Bool = λ z i. is_passed_at s end l.x l.y z i in
      let odd : after_steps scene l start turns ≡ keys_of k.best k.deep k.number k.alive
      (k.alive && is_inside_at s end l.x l.y k.deep) =
      fold-map (after_step scene l) (Turn other r.solid) start (range_with_len 0 n)
      ∙ fold_agree (flip_step t) (flip_step u) 0 n
      (λ i low high k. ap (λ b. if k.alive && b then flipped k else k) (passed s i k.deep (omega arith))) start
      ∙ flips u start (range_with_len 0 n)
      ∙ ap (λ b. keys_of k.best k.deep k.number k.alive b)
      (alive_odd k.alive (u k.deep) (range_with_len 0 n)
      ∙ ap (λ b. k.alive && b) (sym (odd_inside_at s end l.x l.y (covered_once s end l.x l.y) k.deep))) in
      grind (arith, fold-append, ended)
