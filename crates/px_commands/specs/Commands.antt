-- The words of the command line. Clauses of public calls stand on it.
use Rattle.std.specs.Prelude.{ℕ, ℤ, pos, ◌≤◌, ◌==◌, List, [], ◌∷◌, Bool, false, true, ◌&&◌, ⊤}
use Rattle.std.specs.Prelude.{Option, Some, None, if◌then◌else◌, codes}
use lib.Signed.{le_z, mag}
use Rattle.std.specs.Str.{bytes_eq}
use Rattle.px_text.specs.Text.{number_of}
use Rattle.px_commands.specs.declared.command.Command.{Command}
use Rattle.px_commands.specs.declared.command.Command.TheVariants as c
use Rattle.px_frame.specs.declared.plane.Fineness.{Fineness}
use Rattle.px_frame.specs.declared.plane.Fineness.TheVariants as f
use Rattle.px_model.specs.declared.limits.TheConstants.{MAX_BLOCKS, MAX_WIDE_PICTURE_SIZE}
use Rattle.px_commands.specs.declared.command.Work.{Work}
use Rattle.px_commands.specs.declared.command.Work.TheVariants as w

abbrev pub of_one : List ℕ → Option Command
of_one word =
    if bytes_eq word (codes "render") then Some (c.Make w.Render)
    else if bytes_eq word (codes "colour") then Some (c.Make w.Colour)
    else if bytes_eq word (codes "tidy") then Some (c.Make w.Tidy)
    else if bytes_eq word (codes "plan") then Some (c.Make w.Plan)
    else if bytes_eq word (codes "cost") then Some (c.Make w.Cost)
    else if bytes_eq word (codes "shadow") then Some c.Shadow
    else if bytes_eq word (codes "debug") then Some c.Debug
    else if bytes_eq word (codes "list") then Some (c.Make w.List)
    else if bytes_eq word (codes "play") then Some c.Play
    else None

-- a number that does not begin with 0
abbrev pub count_in : List ℕ → Option ℤ
count_in [] = None
count_in (b ∷ bs) = if b == 48 then None else number_of (b ∷ bs)

-- a number from 1 to a greatest one
abbrev pub count_to : (greatest : ℕ) → Option ℤ → Option ℕ
count_to greatest None = None
count_to greatest (Some z) = if le_z (pos 1) z && le_z z (pos greatest) then Some (mag z) else None

-- a sample has at least one block, and as many as MAX_BLOCKS at most
abbrev pub sampling : Option ℕ → Option Command
sampling None = None
sampling (Some n) = Some (c.Sample n)

-- the finer pixels along each side of a pixel
abbrev pub fineness_of : List ℕ → Option Fineness
fineness_of word =
    if bytes_eq word (codes "2") then Some f.Two
    else if bytes_eq word (codes "4") then Some f.Four
    else None

abbrev pub refining : Option Fineness → Option Command
refining (Some fineness) = Some (c.Make (w.Refine fineness))
refining None = None

-- a command and its argument
abbrev pub of_two : (word argument : List ℕ) → Option Command
of_two word argument =
    if bytes_eq word (codes "sample") then sampling (count_to MAX_BLOCKS (count_in argument))
    else if bytes_eq word (codes "refine") then refining (fineness_of argument)
    else None

-- a side of a wide picture has at least one pixel, and as many as MAX_WIDE_PICTURE_SIZE at most
abbrev pub side_in : List ℕ → Option ℕ
side_in word = count_to MAX_WIDE_PICTURE_SIZE (count_in word)

-- the tiling of a picture so wide and high
abbrev pub tiling : (width height : Option ℕ) → Option Command
tiling None height = None
tiling (Some width) None = None
tiling (Some width) (Some height) = Some (c.Make (w.Tile (record { width = width; height = height })))

-- a command and its two arguments
abbrev pub of_three : (word first second : List ℕ) → Option Command
of_three word first second =
    if bytes_eq word (codes "tile") then tiling (side_in first) (side_in second) else None

-- no words, the one word of a command, or a command and its arguments
abbrev pub command_of : List (List ℕ) → Option Command
command_of [] = Some (c.Make w.Render)
command_of (word ∷ []) = of_one word
command_of (word ∷ argument ∷ []) = of_two word argument
command_of (word ∷ first ∷ second ∷ []) = of_three word first second
command_of (word ∷ first ∷ second ∷ third ∷ more) = None

-- shadows are found on pixels of 80 bits, and everything else is drawn on pixels of 72
abbrev pub needs_wide_pixels : Option Command → Bool
needs_wide_pixels (Some c.Shadow) = true
needs_wide_pixels command = false

-- the numbers of a command are within their limits
abbrev pub IsSide : ℕ → Type 0
IsSide n = (1 ≤ n) × (n ≤ MAX_WIDE_PICTURE_SIZE)

abbrev pub HasSize : Work → Type 0
HasSize (w.Tile size) = IsSide size.width × IsSide size.height
HasSize work = ⊤

abbrev pub HasLawfulNumbers : Command → Type 0
HasLawfulNumbers (c.Sample n) = (1 ≤ n) × (n ≤ MAX_BLOCKS)
HasLawfulNumbers (c.Make work) = HasSize work
HasLawfulNumbers command = ⊤
