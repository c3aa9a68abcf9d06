-- Lines of the same bits, pixel by pixel.
use Rattle.px_num.proofs.Basics.{◌≡◌, ℕ, ◌^◌, ◌<◌, arith}
use Rattle.px_listing.proofs.Words.{memory_lines, PixelBits}
use Rattle.px_num.proofs.RangeLaws.{same_parts}
use Rattle.px_listing.specs.PlayedLaw.{MemoriesShowThePlayed}

same_lines : (bits nx ny : ℕ) (f g : (x y : ℕ) → PixelBits) → ((x y : ℕ) → x < 2 ^ nx → y < 2 ^ ny → f x y ≡ g x y)
    → memory_lines bits nx ny f ≡ memory_lines bits nx ny g
same_lines bits nx ny f g same = grind (arith, same_parts)

pub show_the_played : MemoriesShowThePlayed
show_the_played bits l s grid has = grind (arith, same_lines)
