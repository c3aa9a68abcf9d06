-- How many bits the pixels of a command have. Only proofs and private functions stand on it.
use Rattle.std.specs.Prelude.{ℕ, Option, if◌then◌else◌}
use Rattle.px_commands.specs.declared.command.Command.{Command}
use Rattle.px_commands.specs.declared.command_words.TheConstants.{PIXEL_BITS, WIDE_PIXEL_BITS}
use Rattle.px_commands.specs.Commands.{needs_wide_pixels}

abbrev pub pixel_bits : Option Command → ℕ
pixel_bits command = if needs_wide_pixels command then WIDE_PIXEL_BITS else PIXEL_BITS
