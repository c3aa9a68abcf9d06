-- The words of definitions, and the laws of crates below, that proofs here cite.
pub use Rattle.px_array.proofs.ClockLaws.{after_clocks-append, grid_after_clock, nx-after_clocks, ny-after_clocks}
pub use Rattle.px_array.specs.Acts.{after_act, HasPlace}
pub use Rattle.px_array.specs.Arrays.{Device, HasGrid, levels_of, no_pixel, pixel_at, pixel_of, State, zero_state}
pub use Rattle.px_array.specs.Clocks.{acted, after_clock, after_clocks, all_clocked}
pub use Rattle.px_array.specs.Pixels.{PixelState, zero_pixel}
pub use Rattle.px_array.specs.Slots.{HasWorked}
pub use Rattle.px_array.specs.Words.{memory_bit}
pub use Rattle.px_array.specs.declared.act.Act.{Act}
pub use Rattle.px_array.specs.declared.act.Act.TheVariants.{Nop}
pub use Rattle.px_array.specs.declared.micro.Micro.{Micro}
pub use Rattle.px_array.specs.declared.micro.TreeOp.{TreeOp}
pub use Rattle.px_asm.proofs.WrittenLemmas.{other_bit}
pub use Rattle.px_asm.specs.Micros.{all_micros, cycles, micro_at, micros}
pub use Rattle.px_control.proofs.StepLemmas.{at_opened, below_total, micro_here, start_more}
pub use Rattle.px_control.specs.Program.{columns_of, IsAt, rows_of}
pub use Rattle.px_control.specs.ProgramLaws.{IsGoodProgram}
pub use Rattle.px_control.specs.Standing.{StandsFor}
pub use Rattle.px_control.specs.declared.place.Place.{Place}
pub use Rattle.px_listing.specs.Listings.{ListingView}
pub use Rattle.px_listing.specs.PassesText.{passes_listing}
pub use Rattle.px_listing.specs.Reading.{ListFault, listing_of}
pub use Rattle.px_macro.proofs.MacroLemmas.{is_lawful_in_more}
pub use Rattle.px_macro.specs.Macros.{IsLawful, IsLawfulInMore}
pub use Rattle.px_macro.specs.declared.operation.Macro.{Macro}
pub use Rattle.px_model.specs.Scenes.{SceneView}
pub use Rattle.px_num.proofs.Basics.{[], ap, arith, before_first, between, between_from_start, Bool, bytes_eq, cases_eq}
pub use Rattle.px_num.proofs.Basics.{cases_lt, codes, cond, div-mul-add, drop, drop-cons, eqb, false}
pub use Rattle.px_num.proofs.Basics.{flat_map, flat_map-cons, get_or, get_or-append_right, get_or-flat_map}
pub use Rattle.px_num.proofs.Basics.{get_or-set_other, get_or-set_same, get_or_append_left, get_or_default}
pub use Rattle.px_num.proofs.Basics.{get_or_from_slice_get, inl, inr, length, length-append, length-flat_map-take}
pub use Rattle.px_num.proofs.Basics.{length-replicate, length-set, List, lt-ltb, map, map-append, mod-lt, mod-mul-add}
pub use Rattle.px_num.proofs.Basics.{mul-le-mul_right, nat_le, nat_lt, None, Option, option_map, option_or}
pub use Rattle.px_num.proofs.Basics.{pow-add, pow_mono, refl, rules, set, slice_get, slice_get-get_or, slice_get_within}
pub use Rattle.px_num.proofs.Basics.{Some, subst, suc, sym, take, take-append-add, take-append-drop, take-append-le}
pub use Rattle.px_num.proofs.Basics.{take-append_seam, take_all, take_more, true, unwrap_or, YieldsList-at}
pub use Rattle.px_num.proofs.Basics.{YieldsList-end, YieldsList-from_filter, YieldsList-from_filter_map}
pub use Rattle.px_num.proofs.Basics.{YieldsList-from_slice_split, YieldsList-turn, zero, ℕ, ◌%◌, ◌&&◌, ◌*◌, ◌++◌, ◌+◌}
pub use Rattle.px_num.proofs.Basics.{◌-◌, ◌/◌, ◌<◌, ◌==◌, ◌^◌, ◌∙◌, ◌∷◌, ◌≡◌, ◌≢◌, ◌≤◌, ◌⊎◌}
pub use Rattle.px_num.proofs.BitLaws.{pow_above}
pub use Rattle.px_num.proofs.ListLaws.{get_or-tabulate, is_tabulate, length-tabulate}
pub use Rattle.px_num.proofs.TruthLaws.{lt_fails, lt_false, lt_true, not_false, power_grows}
pub use Rattle.px_num.specs.Bits.{bit_at, nat_bit}
pub use Rattle.px_num.specs.Want.{want}
pub use Rattle.px_plane_tree.specs.Lent.{IsLatch}
pub use Rattle.px_planes.proofs.GridLemmas.{acted_inside, acted_outside, whole_words}
pub use Rattle.px_planes.specs.Lent.{IsRegister}
pub use Rattle.px_planes.specs.Pixels.{acted_at}
pub use Rattle.px_rows.proofs.BitLaws.{bit_down, bit_of_zero}
pub use Rattle.px_rows.specs.Rows.{EachBit, row_bit, words_for}
pub use Rattle.px_scene.specs.Reading.{scene_of}
pub use Rattle.px_sched.proofs.LawfulLaws.{lawful_here}
pub use Rattle.px_sched.specs.Layouts.{layout_of, LayoutView, need_of}
pub use Rattle.px_sched.specs.Passes.{operations, steps}
pub use Rattle.px_sched.specs.StepCursors.{literals_in, StandsAtStep}
pub use Rattle.px_sched.specs.declared.step.Step.{Step}
pub use Rattle.px_state.specs.Cells.{HasPlane, HoldsLeaves, HoldsNodes, HoldsPixels, HoldsPixelsAndNodes, IsActed}
pub use Rattle.px_state.specs.Cells.{IsShapeOf, KeepsOutside, leaves_at, nodes_at, nodes_end, pixel_here, placed}
pub use Rattle.px_state.specs.Clocking.{first_stray, HoldsState}
pub use Rattle.px_state.specs.Courses.{broadcasts, device_after, IsNextBroadcast, start_in_listing, total_of_listing}
pub use Rattle.px_state.specs.Inputs.{given_by, IsGoodCourse, IsOperationIn, listing_in, StandsIn}
pub use Rattle.px_state.specs.Operations.{HasOperations, IsOfListing, IsPassed, no_operation, operations_before}
pub use Rattle.px_state.specs.Operations.{purpose_of, told}
pub use Rattle.px_state.specs.Packed.{HasMicro}
pub use Rattle.px_state.specs.Packing.{act_number, act_with, lines_number, memory_place, packed_bit, packed_value}
pub use Rattle.px_state.specs.Packing.{tree_number, tree_with}
pub use Rattle.px_state.specs.Refusals.{fault_of_scene, IsRefusedBy, list_fault, past_text_limit, refusal_by_bits}
pub use Rattle.px_state.specs.Refusals.{starts_listing}
pub use Rattle.px_state.specs.Turning.{shuffled}
pub use Rattle.px_state.specs.Words.{BeginsWithState, HoldsWords, IsNodeWord, IsPixel, node_bit, padded_leaf}
pub use Rattle.px_state.specs.Words.{plane_words, room_of, row_words, word_bit}
pub use Rattle.px_state.specs.declared.operation.Operation.{Operation}
pub use Rattle.px_state.specs.declared.shape.Shape.{Shape}
pub use Rattle.px_text.specs.Text.{is_blank, is_some_byte, worded, Words, words_of}
pub use Rattle.px_text.specs.declared.text.TheConstants.{MAX_TEXT_BYTES}
pub use Rattle.px_tree.specs.Nodes.{after_feed, at_place, cleared, leaf_bit, leaf_output, next_node, TreeState}
pub use Rattle.px_tree.specs.Nodes.{zero_node}
pub use Rattle.px_tree.specs.declared.lines.Lines.{Lines}
pub use Rattle.px_tree.specs.declared.node.Node.{Node}
pub use Rattle.std.proofs.Math.Nat.{div-add-mod}
pub use Rattle.std.proofs.lemmas.Grind.{common_steps}
pub use Rattle.std.proofs.lemmas.List.{get_or-drop, length-drop, length-take-le}
pub use Rattle.std.proofs.lemmas.List.Concat.{flat_map-append}
pub use Rattle.std.proofs.lemmas.List.Sums.{fails_before_first}
