-- Why an array cannot draw a scene. Clauses of public calls stand on it.
use Rattle.std.specs.Prelude.{ℕ, nat_lt, if◌then◌else◌, Option, Some, None}
use Rattle.px_model.specs.Scenes.{SceneView}
use Rattle.px_prune.specs.Kept.{crowd_of}
use Rattle.px_sched.specs.Layouts.{layout_of, need_of}
use Rattle.px_control.specs.declared.fault.JobFault.{JobFault}
use Rattle.px_control.specs.declared.fault.JobFault.TheVariants as f

-- the refusal of a list past the limit, where there is one
abbrev pub too_many_of : Option ℕ → Option JobFault
too_many_of None = None
too_many_of (Some count) = Some (f.Products count)

-- why an array with pixels of so many memory bits cannot draw a scene, where it cannot: its passes need more bits,
-- otherwise a wanted list of products is past the limit
abbrev pub job_refusal : (bits : ℕ) → SceneView → Option JobFault
job_refusal bits scene =
    if nat_lt bits (need_of (layout_of scene)) then Some (f.PixelMemory (need_of (layout_of scene)))
    else too_many_of (crowd_of scene)
