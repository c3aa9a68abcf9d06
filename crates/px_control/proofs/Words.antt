-- The words of definitions, and the laws of crates below, that proofs here cite.
pub use Rattle.arrayvec.specs.ArrayVec.{array_vec_len}
pub use Rattle.px_array.proofs.ClockLaws.{after_clocks-append, all_clocked-append, grid_after_clocks}
pub use Rattle.px_array.proofs.ClockLaws.{grid_of_zero_state, nx-after_clocks, ny-after_clocks}
pub use Rattle.px_array.specs.Arrays.{Device, HasGrid, no_pixel, opened, pixel_of, zero_state}
pub use Rattle.px_array.specs.Clocks.{after_clocks, all_clocked}
pub use Rattle.px_array.specs.Slots.{HasRun, HasWorked}
pub use Rattle.px_array.specs.declared.micro.Micro.{Micro}
pub use Rattle.px_asm.specs.Making.{cycles_on, micros_on}
pub use Rattle.px_asm.specs.Micros.{all_micros, cycles, micro_at, micros}
pub use Rattle.px_asm.specs.Operations.{all_made, CanMake}
pub use Rattle.px_control.specs.Costs.{AreRates, bare_worth, but_edges, rated, worth}
pub use Rattle.px_control.specs.Program.{CanRun, columns_of, cycles_in, ends_after, ends_from, IsAt, micro_at_clock}
pub use Rattle.px_control.specs.Program.{operation_at, program, rows_of, start_of, total}
pub use Rattle.px_control.specs.Standing.{IsWithinOperation, StandsFor}
pub use Rattle.px_control.specs.Whole.{Holds}
pub use Rattle.px_control.specs.declared.measure.Measure.{Measure}
pub use Rattle.px_control.specs.declared.measure.Measure.TheVariants.{Clocks, Operations}
pub use Rattle.px_control.specs.declared.place.Place.{Place}
pub use Rattle.px_control.specs.declared.rates.Rates.{Rates}
pub use Rattle.px_expr.proofs.LeafLaws.{leaves_below, some_solid}
pub use Rattle.px_macro.proofs.MacroLemmas.{is_lawful_in_more}
pub use Rattle.px_macro.specs.Macros.{after_macros, IsLawful, IsLawfulInMore}
pub use Rattle.px_macro.specs.declared.operation.Macro.{Macro}
pub use Rattle.px_model.proofs.GridLaws.{exponent_between, exponent_is}
pub use Rattle.px_model.specs.Cells.{depths_of}
pub use Rattle.px_model.specs.Scenes.{faces_in, faces_of, IsLawfulScene, IsLawfulSolid, SceneView, SolidView}
pub use Rattle.px_normal.specs.Forms.{HasSolidsBelow, sum_of_products}
pub use Rattle.px_normal.specs.Live.{is_void}
pub use Rattle.px_normal.specs.declared.product.Product.{Product}
pub use Rattle.px_num.proofs.ListLaws.{get_or-tabulate, length-tabulate}
pub use Rattle.px_num.proofs.TruthLaws.{itself_true, le_false, le_true, lt_false, other_false}
pub use Rattle.px_prune.proofs.KeptLaws.{none_is_void}
pub use Rattle.px_prune.specs.Kept.{kept_of}
pub use Rattle.px_sched.proofs.LawfulLaws.{passes_are, passes_lawful}
pub use Rattle.px_sched.proofs.LayoutLaws.{bit_length_most, scene_layout}
pub use Rattle.px_sched.proofs.OperationLaws.{each_pass, HoldsOf, is_there, steps_there}
pub use Rattle.px_sched.proofs.PassesLaws.{passes_are_lawful, passes_leave_the_picture}
pub use Rattle.px_sched.proofs.PassesLaws.{steps_are_lawful}
pub use Rattle.px_sched.proofs.WorthLaws.{counted, flat_sum, IsBlind, literal_sum, steps_sum, sum_by-agree, weighed}
pub use Rattle.px_sched.specs.Cursors.{Stands}
pub use Rattle.px_sched.specs.Layouts.{layout_of, LayoutView, need_of}
pub use Rattle.px_sched.specs.Passes.{literal, literal_steps, literals, literals_of, no_solid, operations, others}
pub use Rattle.px_sched.specs.Passes.{passes, product_steps, solid_of, steps_with}
pub use Rattle.px_sched.specs.Steps.{HasFace, IsFace, IsStep, IsThere}
pub use Rattle.px_sched.specs.Worths.{bare, edges_in, first_face_step, judged_worth, own_worth, products_worth}
pub use Rattle.px_sched.specs.Worths.{share_worth, shares_worth}
pub use Rattle.px_sched.specs.declared.literal.Literal.{Literal}
pub use Rattle.px_sched.specs.declared.step.Step.{Step}
pub use Rattle.px_sched.specs.declared.step.Step.TheVariants.{Candidate, Drop, Front, Turn}
pub use Rattle.px_tree.specs.Nodes.{IsGrid}
pub use Rattle.std.proofs.lemmas.List.Concat.{flat_map-append}
