-- Where a pixel stores what it shows, the stored key says by which lights it is lit.
use Rattle.px_num.proofs.Basics.{◌≡◌, ◌+◌, ◌==◌, ◌∙◌, ℕ, Bool, true, ◌&&◌, not, List, Option, Some, None, refl, ap, sym}
use Rattle.px_num.proofs.Basics.{arith, nat_tests}
use Rattle.px_shadow.proofs.Words.{and_false, and_true, deep_part, depths_of, end_is_small, end_of, first_cell, is_lit}
use Rattle.px_shadow.proofs.Words.{is_lit_at, layout_of, light_at, light_bit, number_in, number_part, picture}
use Rattle.px_shadow.proofs.Words.{ShadowLaw, sight_at, solids, SolidSet, value_of}
use Rattle.px_model.specs.Scenes.{SceneView}
use Rattle.px_face.specs.Surfaces.{ShowsBackground}
use Rattle.px_face.proofs.BackgroundLemmas.{shows_background}
use Rattle.px_face.proofs.SurfaceLemmas.{scene_surface}
use Rattle.px_sched.proofs.BridgeLemmas.{number_cut}
use Rattle.px_sched.specs.PassesLaw.{HasSight}
use Rattle.px_shadow.proofs.LightLemmas.{IsReady, are_lit, lit, outside}

-- a layout is ready for the lights
ready : (scene : SceneView) → IsReady (layout_of scene) (end_of (depths_of scene))
ready scene = grind (arith, end_is_small)

-- the stored depth with its fraction is the value of the first cell
deep_is : (scene : SceneView) (memory : List Bool) (x y : ℕ) → HasSight (layout_of scene) memory
    (picture scene x y) →
    number_in (deep_part (layout_of scene) (layout_of scene).key_b) memory ≡ value_of (depths_of scene)
    (picture scene x y).depth
deep_is scene memory x y sight =
    number_cut (0 + (layout_of scene).number_bits) scene.depth_bits scene.fraction_bits memory
    ∙ rw (sight.whole, sight.depth) (grind arith)

not_zero : (n : ℕ) → (n ≡ 0 → ⊥) → not (n == 0) ≡ true
not_zero n h = grind (arith, nat_tests)

module _ (scene : SceneView) (memory : List Bool) (x y : ℕ)
    (sight : HasSight (layout_of scene) memory (picture scene x y)) (background : ShowsBackground scene x y)
    (set : SolidSet) where
  abbrev clear : ℕ → Bool
  clear v = outside scene (layout_of scene) (ready scene) x y v (solids set)

  by_cell : (o : Option ℕ) → first_cell scene x y ≡ o → lit scene (layout_of scene) (ready scene) x y set memory
      ≡ is_lit scene set x y
  by_cell None e = grind (arith, and_false)
  by_cell (Some z) e =
      let depth : (picture scene x y).depth ≡ z = ap (λ o. (sight_at scene x y o).depth) e in
      ap (λ n. clear n && not (number_in (number_part (layout_of scene) (layout_of scene).key_b) memory == 0))
      (deep_is scene memory x y sight ∙ ap (value_of (depths_of scene)) depth)
      ∙ ap (λ b. clear (value_of (depths_of scene) z) && b)
      (not_zero _ (λ h. let same = background.face.0 (sym sight.face ∙ h) in cc))
      ∙ and_true (clear (value_of (depths_of scene) z))
      ∙ sym (ap (is_lit_at scene set x y) e)

  lit_is : lit scene (layout_of scene) (ready scene) x y set memory ≡ is_lit scene set x y
  lit_is = by_cell (first_cell scene x y) refl

pub shadow_law : ShadowLaw
shadow_law scene lawful solids lights x y left up p room sight place below =
    let l = layout_of scene in
    let all = are_lit scene l (ready scene) x y 1 (omega arith) lights p (omega (arith, room)) in
    let e : light_bit l (place + 1) ≡ light_bit l 1 + place = omega arith in
    rw e (all.lights place below ∙ lit_is scene p.memory x y sight
    (shows_background scene_surface scene lawful solids x y)
    (light_at lights place))
