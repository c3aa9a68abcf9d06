-- What `render` writes for a text: the maps of the picture theorem. Clauses of public calls stand on it.
use Rattle.std.specs.Prelude.{ℕ, ◌≡◌, List, [], ◌∷◌, None, codes}
use Rattle.px_scene.specs.Text.{worded}
use Rattle.px_scene.specs.Reading.{refusal_of, scene_of}
use Rattle.px_frame.specs.PictureLaw.{AreMapsOf}
use Rattle.px_frame.specs.Refusals.{job_refusal}
use Rattle.px_commands.specs.Outcomes.{done}
use Rattle.px_draw.specs.Runs.{outcome}

-- it writes nothing for any other text
abbrev pub RenderedIsAccepted : Type 0
RenderedIsAccepted = (text : List ℕ) (bits : ℕ) (maps : List ℕ) → outcome (codes "render" ∷ []) text bits ≡ done maps →
    (refusal_of text ≡ None) × (job_refusal bits (scene_of (worded text)) ≡ None)

-- a text that is a scene, drawn with so many memory bits a pixel: `render` is to write the maps of its scene
abbrev pub AcceptedIsRendered : Type 0
AcceptedIsRendered = (text : List ℕ) (bits : ℕ) → refusal_of text ≡ None → job_refusal bits (scene_of (worded text))
    ≡ None →
    (maps : List ℕ) × (outcome (codes "render" ∷ []) text bits ≡ done maps) × AreMapsOf (scene_of (worded text)) maps
