-- The effects of single steps of the job of a batch.
use Rattle.std.specs.Prelude.{◌≡◌, List, ℕ, Option, option_map, string_bytes}
use Rattle.std.specs.declared.io.Error.{Error as IoError}
use Rattle.attributes.specs.Conn.{conn_view}
use Rattle.attributes.specs.Limits.{largest}
use Rattle.cel_tree.specs.Checked.{CelChecked}
use Rattle.rbac_policy.specs.Admission.{Admits}
use Rattle.rbac_policy.specs.Filter.{Filter}
use Rattle.rbac_policy.specs.Admitted.{filter_view, limits_view}
use Rattle.rbac_judge.specs.Batches.{IsBatch, IsCutShort}
use Rattle.rbac_judge.specs.Judging.{IsRefusedFor}
use Rattle.rbac_judge.specs.Batches.{OfPolicies}
use Rattle.rbac_judge.specs.declared.batch.BatchSettings.{BatchSettings}
use Rattle.program_texts.specs.declared.replay_fault.ReplayFault.{ReplayFault}
use Rattle.program_jobs.specs.Jobs.{IsConnOf, LeavesFault, LeavesReplay}
use Rattle.program_jobs.specs.declared.batch_job.Start.{Start}
use Rattle.program_jobs.specs.declared.batch_job.Start.TheVariants.{Ready, Refused}
use Rattle.program_jobs.specs.declared.job_fault.JobFault.TheVariants as faults
use Rattle.command_line.specs.declared.words.BatchWords.{BatchWords}

-- parameters: a source of files, and the words of a batch
module _ (holds : List ℕ → List ℕ → Type 0) (lacks : (List ℕ × IoError) → Type 0) (words : BatchWords) where
  -- the policy file is admitted as the filter, and the connection has the facts of the facts file. Or the policy file is
  -- refused for this reason
  abbrev pub IsBegunBy : Start → Type 0
  IsBegunBy (Ready basis) = (policy : List ℕ) × (filter : Filter CelChecked) × holds (string_bytes words.policy) policy
      × IsConnOf holds lacks (option_map string_bytes words.facts) (conn_view basis.conn)
      × Admits policy largest words.budget filter (filter_view basis.admitted)
      × (limits_view basis.admitted ≡ largest) × (basis.explain ≡ words.explain)
  IsBegunBy (Refused reason) = (policy : List ℕ) × holds (string_bytes words.policy) policy
      × IsRefusedFor policy words.budget reason

-- the lines of the input were answered, up to its end or to a fault; or memory ran out before
module _ (basis : BatchSettings) (input out out_new errors errors_new : Option (List ℕ)) (status : ℕ) where
  pub data EndsLines : Type 0 where
    whole : (input_new : Option (List ℕ)) → OfPolicies (filter_view basis.admitted) (λ policy budget.
        IsBatch policy budget (conn_view basis.conn) basis.explain input out input_new out_new)
        → status ≡ 0 → errors_new ≡ errors → EndsLines
    short : (fault : ReplayFault) → OfPolicies (filter_view basis.admitted) (λ policy budget.
        IsCutShort policy budget (conn_view basis.conn) basis.explain input out fault out_new)
        → LeavesReplay errors errors_new status fault → EndsLines
    memory : LeavesFault out out_new errors errors_new status faults.Memory → EndsLines
