-- Solids that have one over other pixels. Only proofs and private functions stand on it.
use Rattle.std.specs.Prelude.{List, All}
use Rattle.px_model.specs.declared.pixels.Pixels.{Pixels}
use Rattle.px_model.specs.Pixels.{solid_over}
use Rattle.px_model.specs.Scenes.{IsLawfulSolid, SolidView}

-- each keeps the limits of solids there
abbrev pub AreLawfulOver : Pixels → List SolidView → Type 0
AreLawfulOver pixels solids = All (λ s. IsLawfulSolid (solid_over pixels s)) solids
