-- The words of definitions, and the laws of crates below, that proofs here cite.
pub use Rattle.px_array.specs.Arrays.{Device, no_pixel, registers_of}
pub use Rattle.px_array.specs.Clocks.{acted}
pub use Rattle.px_asm.specs.Microprograms.{bits_of}
pub use Rattle.px_rows.specs.Lanes.{AreBlockValues, HasCarries, HasValue, offset}
pub use Rattle.px_macro.specs.Fields.{number_in}
pub use Rattle.px_macro.specs.Macros.{after_macro, with_field}
pub use Rattle.px_macro.specs.declared.operation.Macro.{Macro}
pub use Rattle.px_macro.specs.declared.operation.Macro.TheVariants.{AddLinear, KeepLess, KeepSign}
pub use Rattle.px_num.proofs.AdderLaws.{flipped, flipped_bit, sum_bit}
pub use Rattle.px_num.proofs.BitLaws.{modulo_bit}
pub use Rattle.px_num.proofs.ListLaws.{get_or-tabulate, is_tabulate, length-tabulate}
pub use Rattle.px_num.proofs.TruthLaws.{and_false, and_true, power_grows}
pub use Rattle.px_num.specs.Bits.{bit_at, bit_of, carry_from, majority, modulo, nat_bit, xor}
pub use Rattle.px_num.specs.Forms.{value_at}
pub use Rattle.px_num.specs.declared.linear.Linear.{Linear}
pub use Rattle.px_array.specs.Acts.{after_act, kept, stored}
pub use Rattle.px_array.specs.Pixels.{PixelState, zero_pixel}
pub use Rattle.px_array.specs.declared.act.Act.{Act}
pub use Rattle.px_array.specs.declared.act.Act.TheVariants.{AddTree, CarryLatch, CarryTree, Fetch, SetCarry}
pub use Rattle.px_array.specs.declared.act.Act.TheVariants.{StoreConst, StoreLatch, StoreTree}
pub use Rattle.px_planes.specs.Operations.{IsDone, IsLike, IsWordDone, IsWorked, IsWorkedIn, stored_bits}
pub use Rattle.px_planes.specs.Pixels.{acted_at, HasPixels, HasWords, IsActed, IsZero, pixel_in, pixels_in}
pub use Rattle.px_planes.specs.declared.planes.Planes.{Planes}
pub use Rattle.px_rows.proofs.BitLaws.{and_at, bit_of_zero}
pub use Rattle.px_rows.specs.Rows.{row_bit, words_for}
pub use Rattle.px_rows.specs.Sums.{value_in, value_on}
pub use Rattle.px_tree.specs.Nodes.{leaf_output, TreeState}
pub use Rattle.std.proofs.lemmas.List.{map-set, set-get_or}
pub use Rattle.std.proofs.lemmas.Simd.{get_or-replicate}
