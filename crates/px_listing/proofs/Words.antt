-- The words of definitions, and the laws of crates below, that proofs here cite.
pub use Rattle.px_array.proofs.ClockLaws.{grid_after_clocks, grid_of_zero_state}
pub use Rattle.px_array.specs.Arrays.{Device, HasGrid, opened, pixel_of, zero_state}
pub use Rattle.px_asm.specs.Microprograms.{bits_of}
pub use Rattle.px_io.proofs.ToldLaws.{front_after, front_before, on_err, takes_both, takes_none}
pub use Rattle.px_listing.specs.Drafts.{IsDraft, IsListingDraftOf, IsOpened, listing_view_of}
pub use Rattle.px_listing.specs.Keywords.{listing_keyword_of}
pub use Rattle.px_listing.specs.Kinds.{bit_number, field_of, is_set, kind_of, number_count, operands_of, operation_with}
pub use Rattle.px_listing.specs.Kinds.{shape_of, word_of}
pub use Rattle.px_listing.specs.Limits.{end_past, field_past, fields_past, form_past, grid_past, listing_limit_of}
pub use Rattle.px_listing.specs.Limits.{overlap, shape_past, value_past}
pub use Rattle.px_listing.specs.Lines.{are_numbers, grid, grid_form, ListForm, numbers_of, opening, operation}
pub use Rattle.px_listing.specs.Lines.{operation_form, timely_form}
pub use Rattle.px_listing.specs.Listings.{canonical_listing, end_line, listing_head, ListingView, macro_line, IsListing}
pub use Rattle.px_listing.specs.Memories.{bit_digit, digits_of, line_of_pixel, memory_lines, row_lines}
pub use Rattle.px_listing.specs.Pieces.{Puts}
pub use Rattle.px_listing.specs.Played.{played, zero_bits}
pub use Rattle.px_listing.specs.declared.kind.Kind.{Kind}
pub use Rattle.px_macro.specs.Macros.{AreApart, AreOfOneLength, IsField, IsLawful, after_macro, after_macros}
pub use Rattle.px_macro.specs.Macros.{MemoryStaysLong, PixelBits}
pub use Rattle.px_macro.specs.declared.operation.Macro.{Macro}
pub use Rattle.px_model.specs.Cells.{picture, Sight}
pub use Rattle.px_model.specs.Grids.{exponent_of}
pub use Rattle.px_num.proofs.ListLaws.{is_tabulate, length-tabulate}
pub use Rattle.px_num.proofs.TruthLaws.{none_first, none_second, same_true}
pub use Rattle.px_num.specs.Bits.{bit_at, nat_bit}
pub use Rattle.px_num.specs.Forms.{IsInTreeRange, IsWithin}
pub use Rattle.px_scene.specs.Lines.{plane_of, size_of}
pub use Rattle.px_sched.proofs.LawfulLaws.{passes_lawful}
pub use Rattle.px_sched.proofs.PassesLaws.{passes_are_few, passes_leave_the_picture}
pub use Rattle.px_sched.specs.Layouts.{layout_of, LayoutView, need_of}
pub use Rattle.px_sched.specs.Passes.{passes}
pub use Rattle.px_sched.specs.PassesLaw.{HasSight}
pub use Rattle.px_show.specs.Judged.{first_bad, past}
pub use Rattle.px_text.proofs.DecimalLaws.{signed_read}
pub use Rattle.px_text.proofs.PlainLaws.{both, plain_fed, signed_plain, spaced_fed}
pub use Rattle.px_text.specs.LentWords.{now_of}
pub use Rattle.px_text.specs.Text.{negative, number_of, positive, worded, Words, words_of}
pub use Rattle.px_text.specs.Written.{are_plain, fed, is_no_feed, is_plain, spaced}
pub use Rattle.px_tree.specs.Nodes.{IsGrid}
pub use Rattle.std.proofs.lemmas.List.{append-nil, set-append_left}
pub use lib.IntN.{negsuc}
