-- The words of definitions, and the laws of crates below, that proofs here cite.
pub use Rattle.px_array.proofs.ClockLaws.{after_clocks-append, all_clocked-append, grid_after_clock, grid_after_clocks}
pub use Rattle.px_array.proofs.ClockLaws.{length-stored, pixel_at-after_clock}
pub use Rattle.px_array.specs.Arrays.{Device, HasGrid, no_pixel, pixel_at, pixel_of, State}
pub use Rattle.px_array.specs.Clocks.{after_clock, after_clocks, after_tree_op, all_clocked, clocked}
pub use Rattle.px_array.specs.Slots.{HasRun, HasWorked}
pub use Rattle.px_array.specs.declared.micro.Micro.{Micro}
pub use Rattle.px_array.specs.declared.micro.TreeOp.{TreeOp}
pub use Rattle.px_array.specs.declared.micro.TreeOp.TheVariants.{Clear, Feed, Hold}
pub use Rattle.px_asm.specs.AtOnce.{IsOvertaken, joined, known_of}
pub use Rattle.px_asm.specs.Making.{cycles_on, micros_on}
pub use Rattle.px_asm.specs.Microprograms.{bits_of, HaveTheirPlaces, LeaveTheMeaning, LeaveTheMeanings}
pub use Rattle.px_asm.specs.Micros.{act_at, all_micros, copy_act, cycles, less_act, micro_at, micros, tree_at}
pub use Rattle.px_asm.specs.Operated.{Agree, AgreeIn, all_known, all_renewed, BecomeTheSame, BecomeTheSameAgain}
pub use Rattle.px_asm.specs.Operated.{IsOperated, Known, LeavesTheRest, none_known, renewed, StayInAgreement}
pub use Rattle.px_asm.specs.Operated.{StayKnown, untouched}
pub use Rattle.px_asm.specs.Operations.{all_made, CanMake}
pub use Rattle.px_macro.specs.FieldLaws.{BitsOfNumber, NumberIsBelow}
pub use Rattle.px_macro.specs.Fields.{is_in, number_from_bits, number_in, with_number}
pub use Rattle.px_macro.specs.Macros.{after_macros, AreApart, IsLawful, keep, PixelBits, with_field}
pub use Rattle.px_macro.specs.declared.field.Field.{Field}
pub use Rattle.px_macro.specs.declared.operation.Macro.{Macro}
pub use Rattle.px_macro.specs.declared.operation.Macro.TheVariants.{AddLinear, Copy, KeepAtMost, KeepLess, KeepSign}
pub use Rattle.px_macro.specs.declared.operation.Macro.TheVariants.{LoadConst, LoadLinear}
pub use Rattle.px_num.proofs.AdderLaws.{carry_is_overflow, flipped, flipped_bit, modulo-flipped, number, sum_bit}
pub use Rattle.px_num.proofs.BitLaws.{modulo_below, modulo_bit}
pub use Rattle.px_num.proofs.ListLaws.{get_or-tabulate, is_tabulate, length-tabulate}
pub use Rattle.px_num.proofs.TruthLaws.{beq_true, itself_true, suc_not_zero}
pub use Rattle.px_num.specs.Bits.{bit_at, bit_of, carry_from, modulo, nat_bit}
pub use Rattle.px_num.specs.Forms.{IsInTreeRange, value_at}
pub use Rattle.px_num.specs.declared.linear.Linear.{Linear}
pub use Rattle.px_array.specs.Acts.{after_act, HasPlace, kept, stored}
pub use Rattle.px_array.specs.Pixels.{PixelState}
pub use Rattle.px_array.specs.declared.act.Act.{Act}
pub use Rattle.px_tree.proofs.PlaceLaws.{index_below}
pub use Rattle.px_tree.specs.Nodes.{IsGrid, leaf_output, TreeState}
pub use Rattle.px_tree.specs.TreeBit.{LeafGivesSign, LeafGivesValue}
pub use Rattle.std.proofs.lemmas.List.{ext_get_or, get_or-drop, length-drop, length-take}
