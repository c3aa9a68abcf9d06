-- The edges of a face are in the range of the multiplier tree.
use Rattle.px_num.proofs.Basics.{nat_tests, common_steps, ◌≡◌, ◌<◌, ◌≤◌, ◌+◌, ◌^◌, ℕ, ℤ, ◌-ℤ◌, List, [], ◌∷◌, ◌++◌}
use Rattle.px_num.proofs.Basics.{length, map, take, drop, get_or, All, arith, length-append, ints, length-map}
use Rattle.px_num.proofs.Basics.{All-cons, All-append, All-map, All-weaker, All-get_or, All-push}
use Rattle.px_face.proofs.Words.{above, at_least, back_edges, back_planes, face_count, face_plane, front_edges}
use Rattle.px_face.proofs.Words.{front_planes, IsInTreeRange, IsLawfulSolid, IsPlane, IsWithin, leads, level, Linear}
use Rattle.px_face.proofs.Words.{planes_in_faces, SolidView, trails}
use Rattle.std.proofs.lemmas.List.Elements.{All-take, All-drop}
pub use Rattle.px_model.proofs.PlaneLaws.{half_range, plane_range}

pub fronts_size : (s : SolidView) → length (front_planes s.fronts) ≡ length s.fronts + 1
fronts_size s = rw (length-map s.fronts (λ f. f.plane)) (omega arith)

pub backs_size : (s : SolidView) (end : ℕ) → length (back_planes s.backs end) ≡ length s.backs + 1
backs_size s end =
    rw (length-append (planes_in_faces s.backs) (level end ∷ []), length-map s.backs (λ f. f.plane)) (omega arith)

apart : (m n : ℕ) (u v : ℤ) → m + m ≤ n → IsWithin m u → IsWithin m v → IsWithin n (u -ℤ v)
apart m n u v le (ulow, uhigh) (vlow, vhigh) = (omega (arith, ints), omega (arith, ints))

above_range : (p q : Linear) → IsPlane p → IsPlane q → IsInTreeRange (above p q)
above_range p q h k = grind (arith, nat_tests, common_steps, apart)

part : (f : Linear → Linear) → ((q : Linear) → IsPlane q → IsInTreeRange (f q)) → (ps : List Linear) → All IsPlane ps
    → All IsInTreeRange (map f ps)
part f range ps planes = All-map IsInTreeRange f ps (All-weaker IsPlane (λ q. IsInTreeRange (f q)) range ps planes)

leads_range : (p : Linear) (ps : List Linear) (i : ℕ) → IsPlane p → All IsPlane ps → All IsInTreeRange (leads p ps i)
leads_range p ps i plane planes =
    All-append IsInTreeRange (map (λ q. above p q) (take i ps)) (map (λ q. at_least p q) (drop (i + 1) ps))
    (part (λ q. above p q) (λ q h. above_range p q plane h) (take i ps) (All-take IsPlane i ps planes))
    (part (λ q. at_least p q) (λ q h. grind (arith, nat_tests, common_steps, apart)) (drop (i + 1) ps)
    (All-drop IsPlane (i + 1) ps planes))

trails_range : (p : Linear) (ps : List Linear) (i : ℕ) → IsPlane p → All IsPlane ps → All IsInTreeRange (trails p ps i)
trails_range p ps i plane planes =
    All-append IsInTreeRange (map (λ q. above q p) (take i ps)) (map (λ q. at_least q p) (drop (i + 1) ps))
    (part (λ q. above q p) (λ q h. above_range q p h plane) (take i ps) (All-take IsPlane i ps planes))
    (part (λ q. at_least q p) (λ q h. grind (arith, nat_tests, common_steps, apart)) (drop (i + 1) ps)
    (All-drop IsPlane (i + 1) ps planes))

three_range : (a b c : List Linear) → All IsInTreeRange a → All IsInTreeRange b → All IsInTreeRange c
    → All IsInTreeRange (a ++ b ++ c)
three_range a b c in_a in_b in_c = All-append IsInTreeRange (a ++ b) c (All-append IsInTreeRange a b in_a in_b) in_c

module _ (s : SolidView) (lawful : IsLawfulSolid s) (end : ℕ) (small : end < 2 ^ 32) where
  fronts_planes : All IsPlane (front_planes s.fronts)
  fronts_planes = All-cons IsPlane (level 0) (planes_in_faces s.fronts) (grind arith)
      (All-map IsPlane (λ f. f.plane) s.fronts lawful.fronts.planes)

  backs_planes : All IsPlane (back_planes s.backs end)
  backs_planes = All-push IsPlane (planes_in_faces s.backs) (level end)
      (All-map IsPlane (λ f. f.plane) s.backs lawful.backs.planes) (grind arith)

  sides_range : All IsInTreeRange s.sides
  sides_range = All-weaker IsPlane IsInTreeRange plane_range s.sides lawful.sides

  pub front_range : (i : ℕ) → i ≤ length s.fronts → All IsInTreeRange (front_edges s end i)
  front_range i there =
      let p = get_or (front_planes s.fronts) i (level 0) in
      let plane = All-get_or IsPlane (front_planes s.fronts) i (level 0) (omega (arith, fronts_size s)) fronts_planes in
      three_range s.sides (leads p (front_planes s.fronts) i) (map (λ q. above q p) (back_planes s.backs end))
      sides_range
      (leads_range p (front_planes s.fronts) i plane fronts_planes)
      (part (λ q. above q p) (λ q h. above_range q p h plane) (back_planes s.backs end) backs_planes)

  pub back_range : (i : ℕ) → i ≤ length s.backs → All IsInTreeRange (back_edges s end i)
  back_range i there =
      let p = get_or (back_planes s.backs end) i (level 0) in
      let plane = All-get_or IsPlane (back_planes s.backs end) i (level 0) (omega (arith, backs_size s end))
      backs_planes in
      three_range s.sides (trails p (back_planes s.backs end) i) (map (λ q. above p q) (front_planes s.fronts))
      sides_range
      (trails_range p (back_planes s.backs end) i plane backs_planes)
      (part (λ q. above p q) (λ q h. above_range p q plane h) (front_planes s.fronts) fronts_planes)

  pub plane_of_range : (face : ℕ) → face < face_count s → IsPlane (face_plane s end face)
  plane_of_range face there =
      let planes = front_planes s.fronts ++ back_planes s.backs end in
      All-get_or IsPlane planes face (level 0)
      (omega (
        arith,
        length-append (front_planes s.fronts) (back_planes s.backs end),
        fronts_size s,
        backs_size s end,
      ))
      (All-append IsPlane (front_planes s.fronts) (back_planes s.backs end) fronts_planes backs_planes)
