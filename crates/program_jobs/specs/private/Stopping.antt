-- What stops a job.
use Rattle.std.specs.Prelude.{◌≡◌, ◌⊎◌}
use Rattle.program_jobs.specs.declared.job_fault.JobFault.{JobFault}

-- the fault is that memory ran out, or this one stops the job
abbrev pub MemoryOrStop : (JobFault → Type 0) → JobFault → Type 0
MemoryOrStop Stop fault = (fault ≡ JobFault.Memory) ⊎ Stop fault
