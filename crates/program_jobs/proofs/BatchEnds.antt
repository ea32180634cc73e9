-- What a batch comes to, by what was read and printed of it.
use Rattle.std.proofs.Common.{◌≡◌, ◌≢◌, ◌⊎◌, ◌∙◌, ℕ, Bool, List, [], Option, Some, None, Result, Ok, Err, IfErr, ap, inl, inr, refl, sym, option_map, string_bytes}
use Rattle.std.specs.Io.Buffered.{reader_buffer, reader_capacity, reader_inner, reader_remaining}
use Rattle.std.specs.Io.KnownBytes.{prepend_known}
use Rattle.std.specs.declared.io.Error.{Error as IoError}
use Rattle.std.specs.declared.io.buffered.BufReader.{BufReader}
use Rattle.proto_wire.specs.declared.refusal.Refusal.{Refusal}
use Rattle.program_jobs.proofs.Ends.{never_by_memory}
use Rattle.rbac_judge.specs.Judging.{IsRefusedFor}
use Rattle.program_jobs.specs.Jobs.{EndsBatch, IsNoBatch, StopsBy}
use Rattle.program_jobs.specs.private.BatchJob.{EndsLines, IsBegunBy}
use Rattle.program_jobs.specs.private.Ending.{EndsResult}
use Rattle.rbac_judge.specs.Reports.{bare, report_with}
use Rattle.program_jobs.specs.private.Stopping.{MemoryOrStop}
use Rattle.rbac_judge.specs.Reports.{IsPrintedFor, with_why}
use Rattle.rbac_judge.specs.declared.batch.BatchSettings.{BatchSettings}
use Rattle.program_jobs.specs.declared.batch_job.Start.TheVariants.{Ready}
use Rattle.program_jobs.specs.declared.job_fault.JobFault.{JobFault}
use Rattle.program_jobs.specs.declared.job_fault.JobFault.TheVariants as faults
use Rattle.rbac_judge.specs.declared.json.Why.{Why}
use Rattle.rbac_judge.specs.declared.outcome.Outcome.TheVariants as outcomes
use Rattle.rbac_judge.specs.declared.report.Report.{Report}
use Rattle.command_line.specs.declared.words.BatchWords.{BatchWords}

-- nothing before an input
prepend_none : (known : Option (List ℕ)) → prepend_known [] known ≡ known
prepend_none None = refl
prepend_none (Some bytes) = refl

-- a new buffer changes nothing of what its reader has left
pub fresh_buffer : {T A : Type 0} (remaining : T → Option (List ℕ)) (r : BufReader T A) (inner : T)
    → reader_inner r ≡ inner → reader_buffer r ≡ [] → reader_capacity r ≡ 65536
    → reader_remaining remaining r ≡ remaining inner
fresh_buffer remaining r inner is empty room =
    rw (room, empty, is) (prepend_none (remaining inner))

module _ (holds : List ℕ → List ℕ → Type 0) (lacks : (List ℕ × IoError) → Type 0) (input : Option (List ℕ))
    (out out_new errors errors_new : Option (List ℕ)) (status : ℕ) (words : BatchWords) where
  -- the lines were answered by what was read
  pub ends_of_lines : (basis : BatchSettings) → IsBegunBy holds lacks words (Ready basis)
      → EndsLines basis input out out_new errors errors_new status
      → EndsBatch holds lacks input out out_new errors errors_new status words
  ends_of_lines basis (policy, filter, read, conn, admits, limits, explain) (EndsLines.whole input_new batch good kept) =
      EndsBatch.whole policy _ input_new
      (record { read = read; conn = conn; admissible = (filter, admits.admissible) })
      (rw explain at (batch policy words.budget filter admits)) good kept
  ends_of_lines basis (policy, filter, read, conn, admits, limits, explain) (EndsLines.short fault batch left) =
      EndsBatch.short policy _ fault
      (record { read = read; conn = conn; admissible = (filter, admits.admissible) })
      (rw explain at (batch policy words.budget filter admits)) left
  ends_of_lines basis begun (EndsLines.memory left) = EndsBatch.memory left

  -- what is printed of a report says as much
  no_batch_as : (report printed : Report) (why : Why) → IsPrintedFor (with_why why report) printed
      → IsNoBatch holds lacks input out out_new errors errors_new status words (Ok report)
      → IsNoBatch holds lacks input out out_new errors errors_new status words (Ok printed)
  no_batch_as report printed why (inl same) none = rw same none
  no_batch_as report printed why (inr (inl less)) none = rw less none
  no_batch_as report printed why (inr (inr out_of)) none = rw out_of (none.0, inl refl)

  -- no line is read, and why is printed
  pub ends_of_none : (found : Result Report JobFault)
      → IsNoBatch holds lacks input out out_new errors errors_new status words found
      → EndsResult out out_new errors errors_new status words.json found
      → EndsBatch holds lacks input out out_new errors errors_new status words
  ends_of_none (Ok report) none ends =
      EndsBatch.none (Ok ends.printed) (no_batch_as report ends.printed ends.why ends.same none) ends.left
  ends_of_none (Err fault) none (inl left) = EndsBatch.none (Err fault) none left
  ends_of_none (Err fault) none (inr memory) = EndsBatch.memory memory

  -- a fault of the files
  pub no_batch_of : (fault : JobFault) (ended : Result Report JobFault)
      → MemoryOrStop (StopsBy holds lacks (string_bytes words.policy) (option_map string_bytes words.facts) words.budget input) fault
      → (fault ≡ faults.Memory → ended ≡ Ok (report_with words.json (bare outcomes.Memory)))
      → (fault ≢ faults.Memory → ended ≡ Err fault)
      → IsNoBatch holds lacks input out out_new errors errors_new status words ended
  no_batch_of fault ended (inl none) memory others = rw (memory none) (refl, inl refl)
  no_batch_of fault ended (inr stops) memory others =
      let never = never_by_memory holds lacks input (string_bytes words.policy) (option_map string_bytes words.facts) words.budget in
      rw (others (λ none. never (rw none at stops))) stops

  -- the policy is refused
  pub ends_of_refusal : (policy : List ℕ) (reason : Refusal) → holds (string_bytes words.policy) policy
      → IsRefusedFor policy words.budget reason
      → EndsResult out out_new errors errors_new status words.json (Ok (report_with words.json (bare (outcomes.Refused reason))))
      → EndsBatch holds lacks input out out_new errors errors_new status words
  ends_of_refusal policy reason read refused ends =
      ends_of_none (Ok (report_with words.json (bare (outcomes.Refused reason))))
      (refl, inr (policy, reason, read, refused, refl)) ends

  -- a fault of the files ends the batch
  pub ends_of_fault : (fault : JobFault) (ended : Result Report JobFault)
      → MemoryOrStop (StopsBy holds lacks (string_bytes words.policy) (option_map string_bytes words.facts) words.budget input) fault
      → (fault ≡ faults.Memory → ended ≡ Ok (report_with words.json (bare outcomes.Memory)))
      → (fault ≢ faults.Memory → ended ≡ Err fault)
      → EndsResult out out_new errors errors_new status words.json ended
      → EndsBatch holds lacks input out out_new errors errors_new status words
  ends_of_fault fault ended stops memory others ends =
      ends_of_none ended (no_batch_of fault ended stops memory others) ends
