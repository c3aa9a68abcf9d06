-- Words that are too many for a command.
use Rattle.std.proofs.Common.{ℕ, ◌≡◌, ◌<◌, List, [], ◌∷◌, length, None, refl, arith}
use Rattle.px_commands.specs.Commands.{command_of}

pub none_of_many : (words : List (List ℕ)) → 3 < length words → command_of words ≡ None
none_of_many [] many = absurd (omega (arith, many))
none_of_many (word ∷ []) many = absurd (omega (arith, many))
none_of_many (word ∷ argument ∷ []) many = absurd (omega (arith, many))
none_of_many (word ∷ first ∷ second ∷ []) many = absurd (omega (arith, many))
none_of_many (word ∷ first ∷ second ∷ third ∷ more) many = refl
