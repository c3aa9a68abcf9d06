-- The shadow passes are lawful in as many memory bits as they need, and few.
use Rattle.px_num.proofs.Basics.{◌<◌, ◌≤◌, ◌+◌, ◌^◌, ℕ, false, true, List, [], ◌∷◌, ◌++◌, length, map, arith, All}
use Rattle.px_num.proofs.Basics.{flat_map, range_with_len, All-append, All-cons, All-head, All-map, All-nil, All-push}
use Rattle.px_num.proofs.Basics.{length-map, All-tail, length-append, length-map-range_with_len, length-range_with_len}
use Rattle.px_num.proofs.Basics.{refl, ◌*◌}
use Rattle.px_shadow.proofs.Words.{background_passes, deep_part, depths_of, edges, end_is_within, end_of, face_count}
use Rattle.px_shadow.proofs.Words.{face_plane, IsBelow, IsField, IsLawful, IsLawfulScene, IsLawfulSolid, IsLayout}
use Rattle.px_shadow.proofs.Words.{keep_covered, layout_with, LayoutView, light_bit, light_passes, Macro, layout_of}
use Rattle.px_shadow.proofs.Words.{need_of, need_with, no_solid, shadow_passes, number_part, passes_from, range_all}
use Rattle.px_shadow.proofs.Words.{solid_of, solid_passes, solids, SolidSet, SolidView, stored_turn}
use Rattle.std.proofs.lemmas.List.Elements.{All-from_recursion}
use Rattle.px_model.specs.Scenes.{SceneView}
use Rattle.px_model.proofs.PlaneLaws.{plane_range}
use Rattle.px_face.proofs.EdgeLemmas.{edges_count, edges_range}
use Rattle.px_face.proofs.RangeLemmas.{plane_of_range}
use Rattle.px_shadow.proofs.StepLemmas.{all_known}
use Rattle.px_sched.proofs.FewLaws.{few_solids}
use Rattle.px_sched.proofs.LayoutLaws.{scene_layout}
use Rattle.px_shadow.specs.ShadowLaws.{ShadowPassesAreLawful}
use Rattle.px_macro.specs.declared.operation.Macro.TheVariants as m

-- operations that pixels of so many memory bits can carry out, and no more than a number of them
pub record AreFit (bits most : ℕ) (ms : List Macro) : Type 0 where
  pub lawful : All (λ m. IsLawful m bits) ms
  pub few : length ms ≤ most

each_fits : {X : Type 0} (bits most : ℕ) (P : X → Type 0) (f : X → List Macro)
    → ((x : X) → P x → AreFit bits most (f x))
    → (xs : List X) → All P xs → AreFit bits (most * length xs) (flat_map f xs)
each_fits bits most P f each [] all = record { lawful = All-nil _; few = omega arith }
each_fits bits most P f each (x ∷ xs) all =
    let first = each x (All-head P x xs all) in
    let others = each_fits bits most P f each xs (All-tail P x xs all) in
    record {
      lawful = All-append (λ m. IsLawful m bits) (f x) (flat_map f xs) first.lawful others.lawful;
      few = omega (arith, first.few, others.few, length-append (f x) (flat_map f xs));
    }

-- what the operations need of a layout in so many memory bits
record HasRoom (l : LayoutView) (bits : ℕ) : Type 0 where
  deep : IsField (deep_part l l.key_b) bits
  number : (number_part l l.key_b).at + l.number_bits ≤ bits
  par : l.par < bits

room_with : (w f i bits : ℕ) → 1 ≤ w → w + f ≤ 24 → need_of (layout_with w f i) ≤ bits
    → HasRoom (layout_with w f i) bits
room_with w f i bits some most enough = grind arith

room_of : (l : LayoutView) (bits : ℕ) → IsLayout l → need_of l ≤ bits → HasRoom l bits
room_of l bits h enough = grind (arith, room_with)

module _ (scene : SceneView) (lawful : IsLawfulScene scene) (each : All IsLawfulSolid scene.solids)
    (l : LayoutView) (layout : IsLayout l) (bits : ℕ) (enough : need_of l ≤ bits) where
  abbrev end : ℕ
  end = end_of (depths_of scene)

  small : end < 2 ^ 32
  small = omega (arith, end_is_within scene.depth_bits scene.fraction_bits lawful.sizes.depth_limit)

  abbrev Fits : Macro → Type 0
  Fits one = IsLawful one bits

  room : HasRoom l bits
  room = room_of l bits layout enough

  turn_fits : (s : SolidView) → IsLawfulSolid s → (face : ℕ) → face < face_count s
      → AreFit bits 100 (stored_turn l end s face)
  turn_fits s h face there =
      let signs = keep_covered end s face in
      let tail : List Macro = m.KeepAtMost (face_plane s end face) (deep_part l l.key_b) ∷ m.Toggle l.par ∷ [] in
      record {
        lawful = All-cons Fits m.All (signs ++ tail) tt
            (All-append Fits signs tail (All-map Fits m.KeepSign (edges s end face)
            (edges_range s h end small face there))
            (All-from_recursion Fits tail
            ((plane_range _ (plane_of_range s h end small face there), room.deep), (room.par, tt))));
        few = grind (arith, length-append, length-map, edges_count);
      }

  module _ (light : ℕ) (there : light_bit l light < bits) where
    solid_fits : (s : SolidView) → IsLawfulSolid s → AreFit bits 6605 (solid_passes l end light s)
    solid_fits s h =
        let faces = range_with_len 0 (face_count s) in
        let turns = flat_map (stored_turn l end s) faces in
        let head : List Macro = m.All ∷ m.SetBit l.par false ∷ [] in
        let last : List Macro = m.All ∷ m.KeepBit l.par true ∷ m.SetBit (light_bit l light) false ∷ [] in
        let all = each_fits bits 100 (λ face. face < face_count s) (stored_turn l end s) (turn_fits s h) faces
        (range_all (λ face. face < face_count s) 0 (face_count s) (λ i low high. omega arith)) in
        record {
          lawful = All-append Fits head (turns ++ last) (All-from_recursion Fits head (tt, (room.par, tt)))
              (All-append Fits turns last all.lawful (All-from_recursion Fits last (tt, (room.par, (there, tt)))));
          few = omega (
            arith,
            length-append turns last,
            all.few,
            length-range_with_len 0 (face_count s),
            h.fronts.few,
            h.backs.few,
          );
        }

    background_fits : AreFit bits 14 (background_passes l light)
    background_fits =
        let test : ℕ → Macro = λ t. m.KeepBit ((number_part l l.key_b).at + t) false in
        let tests = map test (range_with_len 0 l.number_bits) in
        let last = m.SetBit (light_bit l light) false in
        record {
          lawful = All-cons Fits m.All (tests ++ (last ∷ [])) tt
              (All-push Fits tests last (All-map Fits test (range_with_len 0 l.number_bits)
              (range_all (λ t. Fits (test t)) 0 l.number_bits (λ i low high. omega (arith, room.number)))) there);
          few = omega (
            arith,
            layout.number,
            length-append tests (last ∷ []),
            length-map-range_with_len test 0 l.number_bits,
          );
        }

    light_fits : (set : SolidSet) → IsBelow (length scene.solids) set
        → AreFit bits 1690896 (light_passes scene l light set)
    light_fits set known =
        let head : List Macro = m.All ∷ m.SetBit (light_bit l light) true ∷ [] in
        let f : ℕ → List Macro = λ q. solid_passes l end light (solid_of scene q) in
        let turns = flat_map f (solids set) in
        let all = each_fits bits 6605 (λ q. q < length scene.solids) f
        (λ q low. solid_fits (solid_of scene q) (each q no_solid low)) (solids set)
        (all_known (length scene.solids) set known) in
        record {
          lawful = All-append Fits head (turns ++ background_passes l light)
              (All-from_recursion Fits head (tt, (there, tt)))
              (All-append Fits turns (background_passes l light) all.lawful background_fits.lawful);
          few = omega (
            arith,
            length-append turns (background_passes l light),
            all.few,
            background_fits.few,
            few_solids set 256 refl,
          );
        }

  pub lights_fit : (light : ℕ) (sets : List SolidSet) → light_bit l light + length sets ≤ bits
      → All (IsBelow (length scene.solids)) sets → AreFit bits (1690896 * length sets) (passes_from scene l light sets)
  lights_fit light [] there known = record { lawful = All-nil Fits; few = omega arith }
  lights_fit light (set ∷ sets) there known =
      let first = light_fits light (omega arith) set (All-head (IsBelow (length scene.solids)) set sets known) in
      let others = lights_fit (light + 1) sets (omega arith)
      (All-tail (IsBelow (length scene.solids)) set sets known) in
      record {
        lawful = All-append Fits (light_passes scene l light set) (passes_from scene l (light + 1) sets) first.lawful
            others.lawful;
        few = omega (
          arith,
          first.few,
          others.few,
          length-append (light_passes scene l light set) (passes_from scene l (light + 1) sets),
        );
      }

pub passes_fit : (scene : SceneView) → IsLawfulScene scene → All IsLawfulSolid scene.solids → (lights : List SolidSet)
    → All (IsBelow (length scene.solids)) lights
    → AreFit (need_with (layout_of scene) (length lights)) (1690896 * length lights)
    (shadow_passes scene (layout_of scene) lights)
passes_fit scene lawful solids lights known =
    lights_fit scene lawful solids (layout_of scene) (scene_layout scene lawful)
    (need_with (layout_of scene) (length lights)) (omega arith) 1 lights (omega arith) known

pub passes_lawful : ShadowPassesAreLawful
passes_lawful scene lawful solids lights known = (passes_fit scene lawful solids lights known).lawful
