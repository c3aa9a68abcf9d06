-- Grids of planes on which an operation was made at once.
use Rattle.px_num.proofs.Basics.{arith, ◌≡◌, ℕ, ◌+◌, ◌/◌, ◌^◌, ◌<◌, ◌%◌, length-map, div-mul-add, mod-mul-add}
use Rattle.px_planes.proofs.Words.{after_macro, bits_of, Device, get_or-tabulate, HasPixels, length-tabulate, Macro}
use Rattle.px_planes.proofs.Words.{pixel_in, pixels_in, Planes, TreeState}
use Rattle.px_asm.specs.Making.{cycles_on}
use Rattle.px_asm.specs.Operated.{IsOperated}
use Rattle.px_tree.proofs.PlaceLaws.{index_below}

abbrev pub device_of : TreeState → Planes → (clocks : ℕ) → Device
device_of tree planes clocks = record {
  state = record { pixels = pixels_in (2 ^ (tree.nx + tree.ny)) planes; tree = tree };
  clocks = clocks;
}

pub operated_law : (bits : ℕ) (op : Macro) (tree : TreeState) (old new : Planes) (before now : ℕ)
    → HasPixels bits (2 ^ (tree.nx + tree.ny)) new
    → ((p : ℕ) → p < 2 ^ (tree.nx + tree.ny) → bits_of (pixel_in new p)
    ≡ after_macro op (p / 2 ^ tree.ny) (p % 2 ^ tree.ny) (bits_of (pixel_in old p)))
    → new.carry ≡ old.carry → new.latch ≡ old.latch → now ≡ before + cycles_on (device_of tree old before) op
    → IsOperated bits op (device_of tree old before) (device_of tree new now)
operated_law bits op tree old new before now pixels each carry latch counted =
    grind (arith, length-tabulate, get_or-tabulate, length-map, index_below, div-mul-add, mod-mul-add)
