-- The words of definitions, and the laws of crates below, that proofs here cite.
pub use Rattle.px_array.proofs.ClockLaws.{all_clocked-append, grid_after_clocks, nx-after_clocks, ny-after_clocks}
pub use Rattle.px_array.specs.Arrays.{Device, HasGrid, pixel_of, State}
pub use Rattle.px_array.specs.Clocks.{after_clocks, all_clocked}
pub use Rattle.px_array.specs.Slots.{ArrayView, HasRun}
pub use Rattle.px_asm.specs.Micros.{all_micros, micros}
pub use Rattle.px_asm.specs.Operations.{all_made, CanMake}
pub use Rattle.px_face.specs.Edges.{covers, edges}
pub use Rattle.px_face.specs.Faces.{face_count, face_plane}
pub use Rattle.px_frame.proofs.RowLaws.{same_image}
pub use Rattle.px_io.specs.Reports.{ConsumesAtMost, IsFrontOf, SinkState}
pub use Rattle.px_macro.proofs.NumberLaws.{number_same}
pub use Rattle.px_macro.specs.Fields.{number_from_bits, number_in}
pub use Rattle.px_macro.specs.Macros.{after_macros, IsField, IsLawful, PixelBits}
pub use Rattle.px_macro.specs.declared.field.Field.{Field}
pub use Rattle.px_macro.specs.declared.operation.Macro.{Macro}
pub use Rattle.px_model.proofs.CellLaws.{end_is_small, end_is_within}
pub use Rattle.px_model.specs.Cells.{depths_of, end_of, first_cell, is_inside_at, picture, sight_at, value_of}
pub use Rattle.px_model.specs.Scenes.{IsLawfulScene, IsLawfulSolid, SolidView}
pub use Rattle.px_num.proofs.RangeLaws.{range_all, range_more}
pub use Rattle.px_num.proofs.TruthLaws.{and_both, and_false, and_left, and_right, and_true, lt_holds, lt_true}
pub use Rattle.px_num.proofs.TruthLaws.{turned_from_false}
pub use Rattle.px_num.specs.Bits.{bit_at, modulo}
pub use Rattle.px_num.specs.declared.linear.Linear.{Linear}
pub use Rattle.px_commands.proofs.StopLaws.{stop_serves}
pub use Rattle.px_commands.specs.Outcomes.{done, Outcome, refusal, refused, unless_refused}
pub use Rattle.px_commands.specs.Refusals.{text_refusal, too_long}
pub use Rattle.px_prune.specs.Kept.{plan_of, set_of}
pub use Rattle.px_scene.specs.Text.{worded}
pub use Rattle.px_sched.specs.Layouts.{deep_part, IsLayout, layout_of, layout_with, LayoutView, need_of, number_part}
pub use Rattle.px_sched.specs.Passes.{keep_covered, no_solid, solid_of}
pub use Rattle.px_normal.proofs.SolidsLaws.{solids_laws}
pub use Rattle.px_normal.specs.Sets.{empty, IsBelow, one, sets_joined, solids}
pub use Rattle.px_normal.specs.declared.set.SolidSet.{SolidSet}
pub use Rattle.px_shadow.specs.Carrying.{carried_out, CarriesOut, IsRestOf}
pub use Rattle.px_shadow.specs.LightLines.{as_light, is_solid_name, light_fault_behind, light_in, light_of}
pub use Rattle.px_shadow.specs.LightLines.{lights_fault, lights_of, line_fault, named, solid_named}
pub use Rattle.px_shadow.specs.Lights.{is_lit, is_lit_at, light_at, mask_image}
pub use Rattle.px_shadow.specs.Saying.{are_some, AreRead, pieces_of, said_behind, said_of, with_solid}
pub use Rattle.px_shadow.specs.ShadowLaws.{MaskLaw, ShadedGridLaw, ShadedLaw, ShadowLaw}
pub use Rattle.px_shadow.specs.ShadowPasses.{background_passes, light_bit, light_passes, need_with, passes_from}
pub use Rattle.px_shadow.specs.ShadowPasses.{shadow_passes, solid_passes, stored_turn}
pub use Rattle.px_shadow.specs.Shadows.{lights_in, lights_refusal, line_behind, lit_by_lines, lit_drawable, parts_lit}
pub use Rattle.px_shadow.specs.Shadows.{PerformsShadow, Shades}
pub use Rattle.px_shadow.specs.Stored.{stored_masks, StoresTheLights}
pub use Rattle.px_shadow.specs.declared.light.LightFault.{LightFault}
pub use Rattle.px_shadow.specs.declared.passes.TheConstants.{MAX_LIGHTS}
pub use Rattle.px_show.proofs.JudgedLaws.{all_good, AreGood, first_is, good_next}
pub use Rattle.px_text.specs.Text.{is_blank, is_name, is_some_byte, Words, words_of}
pub use Rattle.std.proofs.lemmas.List.{append-nil, set-set}
