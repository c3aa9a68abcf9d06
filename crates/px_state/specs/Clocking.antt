-- A state that is clocked where its words stand. Clauses of public calls stand on it.
use Rattle.std.specs.Prelude.{ℕ, not, List, map, Option}
use Rattle.std.specs.List.{position}
use Rattle.px_array.specs.Arrays.{HasGrid, State}
use Rattle.px_array.specs.Clocks.{after_clocks}
use Rattle.px_state.specs.Packing.{is_micro, micro_in}
use Rattle.px_state.specs.Words.{BeginsWithState, HoldsWords}

-- the words begin with those of a state of so many pixels with so many bits
pub record HoldsState (bits nx ny : ℕ) (s : State) (words : List ℕ) : Type 0 where
  pub grid : HasGrid bits nx ny s
  pub holds : HoldsWords bits s words

-- the first word that is no micro for such pixels, if there is one
abbrev pub first_stray : (bits : ℕ) → List ℕ → Option ℕ
first_stray bits micros = position (λ word. not (is_micro bits word)) micros

-- whatever state the words held, they hold the one that these micros leave of it
abbrev pub AreClocked : (bits nx ny : ℕ) → (micros before now : List ℕ) → Type 0
AreClocked bits nx ny micros before now =
    (s : State) → HoldsState bits nx ny s before → BeginsWithState bits (after_clocks (map micro_in micros) s) before
    now
