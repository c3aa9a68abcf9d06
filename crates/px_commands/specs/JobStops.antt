-- The stop of a job that was not opened, and of a scene that has no plan. Only proofs and private functions
-- stand on it.
use Rattle.px_normal.specs.declared.fault.NormalFault.{NormalFault}
use Rattle.px_normal.specs.declared.fault.NormalFault.TheVariants as normal
use Rattle.px_control.specs.declared.fault.JobFault.{JobFault}
use Rattle.px_control.specs.declared.fault.JobFault.TheVariants as job
use Rattle.px_commands.specs.declared.stop.SceneStop.{SceneStop}
use Rattle.px_commands.specs.declared.stop.SceneStop.TheVariants as halted
use Rattle.px_commands.specs.Refusals.{short_of_bits, too_many}

abbrev pub products_stop : NormalFault → SceneStop
products_stop (normal.TooMany count) = halted.Refused (too_many count)
products_stop (normal.Memory m) = halted.Memory m

abbrev pub job_stop : JobFault → SceneStop
job_stop (job.PixelMemory need) = halted.Refused (short_of_bits need)
job_stop (job.Products count) = halted.Refused (too_many count)
job_stop (job.Memory m) = halted.Memory m
