-- The passes are lawful in as many memory bits as the layout needs.
use Rattle.px_num.proofs.Basics.{common_steps, ◌≡◌, ℕ, ◌-◌, ◌==◌, ◌+◌, ◌^◌, ◌<◌, ◌≤◌, All, false, List, refl, arith}
use Rattle.px_num.proofs.Basics.{inr, nat_tests, pow_pos, pow_mono}
use Rattle.px_sched.proofs.Words.{deep_part, depths_of, edges_range, end_is_small, end_of, face_plane, fraction_part}
use Rattle.px_sched.proofs.Words.{IsInTreeRange, IsLawfulScene, IsLawfulSolid, IsLayout, IsPlane, IsStep, IsThere}
use Rattle.px_sched.proofs.Words.{layout_of, LayoutView, need_of, number_part, operations, passes_with, plane_of_range}
use Rattle.px_sched.proofs.Words.{plus, Product, SceneView, solid_of, Step, wider}
use Rattle.px_macro.specs.Macros.{IsField, IsLawful}
use Rattle.px_model.proofs.PlaneLaws.{plane_range}
use Rattle.px_sched.proofs.FewLaws.{solid_lawful}
use Rattle.px_sched.proofs.OperationLaws.{HoldsOf, each_operation, each_pass, is_there}
use Rattle.px_sched.proofs.RoomLemmas.{numbers_fit, shifted}

module _ (scene : SceneView) (lawful : IsLawfulScene scene)
    (solids : All IsLawfulSolid scene.solids) (is : IsLayout (layout_of scene)) where
  abbrev f : ℕ
  f = scene.fraction_bits

  abbrev end : ℕ
  end = end_of (depths_of scene)

  abbrev l : LayoutView
  l = layout_of scene

  small : end < 2 ^ (scene.depth_bits + f)
  small = end_is_small scene.depth_bits f

  end_small : end < 2 ^ 32
  end_small = grind (arith, nat_tests, common_steps, pow_mono, small)

  plane : (solid face : ℕ) → IsThere scene solid face → IsPlane (face_plane (solid_of scene solid) end face)
  plane solid face there =
      plane_of_range (solid_of scene solid) (solid_lawful scene solids solid) end end_small face there

  field_b : IsField l.key_b (need_of l)
  field_b = record { from_one = omega arith; to_forty = omega arith; within = omega arith }

  field_t : IsField l.key_t (need_of l)
  field_t = record { from_one = omega arith; to_forty = omega arith; within = omega arith }

  deep : IsField (deep_part l l.key_t) (need_of l)
  deep = record { from_one = omega arith; to_forty = omega arith; within = omega arith }

  fraction : (f == 0) ≡ false → IsField (fraction_part l l.key_t) (need_of l)
  fraction some = record { from_one = grind (arith, nat_tests); to_forty = omega arith; within = omega arith }

  number : IsField (number_part l l.key_t) (need_of l)
  number = record { from_one = omega arith; to_forty = omega arith; within = omega arith }

  -- a face's plane so much further
  moved : (n : ℕ) → n ≤ 2 ^ f → (solid face : ℕ) → IsThere scene solid face
      → IsInTreeRange (plus (face_plane (solid_of scene solid) end face) n) × IsField (deep_part l l.key_t) (need_of l)
  moved n low solid face there = let is = plane solid face there in grind (arith, pow_mono {i = f} {j = 8} lawful.sizes.fraction_limit, deep, wider)

  each_lawful : HoldsOf scene l (λ m. IsLawful m (need_of l))
  each_lawful = record {
    all = tt;
    best = (field_b, shifted end (scene.depth_bits + f) l.number_bits small);
    alive = λ v. omega arith;
    par = omega arith;
    turned = omega arith;
    where_alive = omega arith;
    where_par = λ v. omega arith;
    less = record { fields = (field_t, field_b); length = refl };
    copy = (record { fields = (field_t, field_b); length = refl }, inr (omega arith));
    faces = record {
      cleared = λ some. (fraction some, pow_pos f);
      number = λ solid face. (number, numbers_fit scene lawful solid face);
      signs = λ solid face there.
          edges_range (solid_of scene solid) (solid_lawful scene solids solid) end end_small face there;
      load = moved (2 ^ f - 1) (omega arith);
      at_most = λ solid face there. (plane_range _ (plane solid face there), deep);
      behind = moved (2 ^ f) (omega arith);
    };
  }

  pub step_fits : (step : Step) → IsStep scene step → All (λ m. IsLawful m (need_of l)) (operations scene l step)
  step_fits step is = each_operation scene l (λ m. IsLawful m (need_of l)) each_lawful step (is_there scene step is)

  pub scene_passes_fit : (products : List Product) → All (λ m. IsLawful m (need_of l)) (passes_with scene l products)
  scene_passes_fit products = each_pass scene l (λ m. IsLawful m (need_of l)) each_lawful products
