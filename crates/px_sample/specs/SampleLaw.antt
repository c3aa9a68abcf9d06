-- The sample is a scene's text. Clauses of public calls stand on it.
use Rattle.std.specs.Prelude.{◌≡◌, ℕ, ◌≤◌, None}
use Rattle.px_model.specs.declared.limits.TheConstants.{MAX_BLOCKS}
use Rattle.px_scene.specs.Reading.{refusal_of}
use Rattle.px_sample.specs.Sample.{sample_text}

-- the text of the sample is accepted, for each number of blocks that it may have
abbrev pub SamplesAreAccepted : Type 0
SamplesAreAccepted = (n : ℕ) → 1 ≤ n → n ≤ MAX_BLOCKS → refusal_of (sample_text n) ≡ None
