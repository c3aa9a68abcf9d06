-- What a read that failed leaves. Clauses of public calls stand on it.
use Rattle.std.specs.Prelude.{◌≡◌, ℕ, ◌-◌, ◌≤◌, List, Option, None, length, take}
use Rattle.std.specs.Io.KnownBytes.{Consumes}
use Rattle.px_asked.specs.Parts.{part_end}

-- so many bytes at most were taken, and all but the last that may be have no whole scene part
abbrev pub TookNoPart : (old new : Option (List ℕ)) → (limit : ℕ) → Type 0
TookNoPart old new limit =
    (taken : List ℕ) × Consumes old new taken × (length taken ≤ limit) × (part_end (take (limit - 1) taken) ≡ None)
