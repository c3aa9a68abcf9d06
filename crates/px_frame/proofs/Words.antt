-- The words of definitions, and the laws of crates below, that proofs here cite.
pub use Rattle.px_array.specs.Arrays.{pixel_of, State}
pub use Rattle.px_array.specs.Words.{IsMemoryWord, memory_bit}
pub use Rattle.px_frame.specs.Picture.{depth_at, face_at, header, image_of, image_of_pixels, number_pixel}
pub use Rattle.px_frame.specs.Picture.{row_of_pixels, three_bytes}
pub use Rattle.px_frame.specs.Images.{picture_image}
pub use Rattle.px_frame.specs.Stored.{doublings_of, field_shown, shown_pixel, side_shown, stored_depth, stored_face}
pub use Rattle.px_frame.specs.Stored.{stored_image, stored_number}
pub use Rattle.px_frame.specs.Strips.{HoldsRow, strip_number}
pub use Rattle.px_frame.specs.declared.plane.Plane.{Plane}
pub use Rattle.px_io.proofs.ToldLaws.{front_after, front_before, on_err, takes_both}
pub use Rattle.px_io.specs.Reports.{SinkState, TakesAll, TakesFront}
pub use Rattle.px_macro.specs.Fields.{number_from_bits, number_in}
pub use Rattle.px_macro.specs.declared.field.Field.{Field}
pub use Rattle.px_model.specs.Scenes.{SceneView}
pub use Rattle.px_num.proofs.TruthLaws.{double_pow, lt_true, power_grows}
pub use Rattle.px_num.specs.Bits.{bit_at, nat_bit}
pub use Rattle.px_sched.specs.Layouts.{LayoutView}
pub use Rattle.px_tree.proofs.PlaceLaws.{index_below, power_next}
