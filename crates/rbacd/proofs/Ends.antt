-- What a run comes to, by what was printed of it.
use Rattle.std.proofs.Common.{◌≡◌, ◌⊎◌, ℕ, Bool, List, Option, inl, inr}
use Rattle.std.specs.declared.io.Error.{Error as IoError}
use Rattle.clap.specs.Words.{kind_of}
use Rattle.clap.specs.declared.error.Error.{Error}
use Rattle.clap.specs.declared.error.kind.ErrorKind.TheVariants as kinds
use Rattle.program_jobs.specs.Jobs.{LeavesFault}
use Rattle.rbacd.specs.Run.{EndsServe, LacksSettings, Ran}
use Rattle.serve_config.specs.declared.config.ServeConfig.{ServeConfig}
use Rattle.serve_core.specs.Turns.{ServerFacts, ServerStep}
use Rattle.stream_pumps.specs.Rounds.{Link}
use Rattle.command_line.specs.Words.{AreMistaken}
use Rattle.program_jobs.specs.private.Stopping.{MemoryOrStop}
use Rattle.program_jobs.specs.declared.job_fault.JobFault.{JobFault}
use Rattle.program_jobs.specs.declared.job_fault.JobFault.TheVariants as faults

module _ (holds : List ℕ → List ℕ → Type 0) (lacks : (List ℕ × IoError) → Type 0) (hosted : ServerFacts → ServeConfig → List ServerStep → Type 0)
    (out out_new errors errors_new : Option (List ℕ)) (status : ℕ) where
  -- and where a server has no settings
  pub end_of_serve : (path : List ℕ) (check : Bool) (fault reported : JobFault)
      → MemoryOrStop (LacksSettings holds lacks path) fault
      → (reported ≡ fault) ⊎ (reported ≡ faults.Memory) → LeavesFault out out_new errors errors_new status reported
      → EndsServe holds lacks hosted out out_new errors errors_new status path check
  end_of_serve path check fault reported (inl none) (inl same) left = EndsServe.memory (rw (same, none) at left)
  end_of_serve path check fault reported (inr lacking) (inl same) left = EndsServe.lacking fault lacking (rw same at left)
  end_of_serve path check fault reported stops (inr none) left = EndsServe.memory (rw none at left)

module _ (holds : List ℕ → List ℕ → Type 0) (lacks : (List ℕ × IoError) → Type 0)
    (connects accepts : List ℕ → Option Link → Type 0) (hosted : ServerFacts → ServeConfig → List ServerStep → Type 0)
    (out out_new errors errors_new : Option (List ℕ)) (status : ℕ) where
  -- where the words name no job, that is reported, or out of memory
  pub end_of_words : (input : Option (List ℕ)) (words : List (List ℕ)) (error : Error) (fault reported : JobFault)
      → (kind_of error ≡ kinds.OutOfMemory → fault ≡ faults.Memory)
      → (fault ≡ faults.Memory) ⊎ (fault ≡ faults.Words error)
      → (kind_of error ≡ kinds.OutOfMemory) ⊎ AreMistaken words (kind_of error)
      → (reported ≡ fault) ⊎ (reported ≡ faults.Memory) → LeavesFault out out_new errors errors_new status reported
      → Ran holds lacks connects accepts hosted input out out_new errors errors_new status words
  end_of_words input words error fault reported memory either mistaken (inr none) left = Ran.memory (rw none at left)
  end_of_words input words error fault reported memory (inl none) mistaken (inl same) left =
      Ran.memory (rw (same, none) at left)
  end_of_words input words error fault reported memory (inr is) (inl none) (inl same) left =
      Ran.memory (rw (same, memory none) at left)
  end_of_words input words error fault reported memory (inr is) (inr mistaken) (inl same) left =
      Ran.mistaken error mistaken (rw (same, is) at left)
