use Rattle.px_macro.proofs.NumberLaws.{bit_beside_is_kept, bits_of_number, number_beside_is_kept, number_is_below}
use Rattle.px_macro.proofs.NumberLaws.{number_is_kept, number_is_read, number_of_two_parts, places_are_written}
use Rattle.px_macro.proofs.field.laws_of_fields.Goals as goal

pub returns : goal.returns
returns c = record {
  bits = bits_of_number;
  below = number_is_below;
  written = places_are_written;
  read = number_is_read;
  kept = number_is_kept;
  bit_beside = bit_beside_is_kept;
  number_beside = number_beside_is_kept;
  parts = number_of_two_parts;
}
