-- A refusal of an expression's products as one of a job. Clauses of public calls stand on it.
use Rattle.px_normal.specs.declared.fault.NormalFault.{NormalFault}
use Rattle.px_normal.specs.declared.fault.NormalFault.TheVariants as normal
use Rattle.px_control.specs.declared.fault.JobFault.{JobFault}
use Rattle.px_control.specs.declared.fault.JobFault.TheVariants as job

abbrev pub job_fault : NormalFault → JobFault
job_fault (normal.TooMany count) = job.Products count
job_fault (normal.Memory m) = job.Memory m
