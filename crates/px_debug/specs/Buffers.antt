-- A line in a buffer of 256 bytes. Only proofs and private functions stand on it.
use Rattle.std.specs.Prelude.{List, ℕ, take}

-- what a buffer keeps of a line
abbrev pub short : List ℕ → List ℕ
short line = take 256 line
