-- What a run comes to, by what was printed of it.
use Rattle.std.proofs.Common.{◌≡◌, ◌≢◌, ◌⊎◌, ◌↔◌, ℕ, Bool, List, Option, Result, Ok, Err, IfErr, IfOk, IsTrue, true, false, ap, inl, inr, refl, option_map, string_bytes}
use Rattle.std.specs.declared.io.Error.{Error as IoError}
use Rattle.cost_bound.specs.declared.budget.Budget.{Budget}
use Rattle.rbac_judge.proofs.JudgeLemmas.{less_found}
use Rattle.rbac_judge.specs.Explain.{IsGiven}
use Rattle.rbac_judge.specs.Judging.{IsDecision}
use Rattle.program_jobs.specs.private.Ending.{EndsResult}
use Rattle.rbac_judge.specs.Reports.{IsPrintedFor, without_trials, with_why}
use Rattle.program_jobs.specs.Jobs.{ChecksTo, EndsConfig, EndsControl, EndsProxy, EndsReplay, EndsReport, IsCheckedAs, IsJudgedAs, IsUnread, JudgesTo, LacksConfig, LeavesFault, LeavesObject, StopsBy, StopsControl, StopsProxy}
use Rattle.stream_pumps.specs.Rounds.{Link}
use Rattle.rbac_judge.specs.Reports.{bare, report_with}
use Rattle.program_jobs.specs.private.Stopping.{MemoryOrStop}
use Rattle.rbac_judge.specs.declared.explain.Explanation.{Explanation}
use Rattle.rbac_judge.specs.declared.explain.Explanation.TheVariants as explanations
use Rattle.rbac_judge.specs.declared.json.Why.{Why}
use Rattle.rbac_judge.specs.declared.judge.Finding.{Finding}
use Rattle.rbac_judge.specs.declared.outcome.Outcome.TheVariants as outcomes
use Rattle.rbac_judge.specs.declared.report.Report.{Report}
use Rattle.program_jobs.specs.declared.job_fault.JobFault.{JobFault}
use Rattle.program_jobs.specs.declared.job_fault.JobFault.TheVariants as faults
use Rattle.command_line.specs.declared.control_words.ControlWords.{ControlWords}
use Rattle.command_line.specs.declared.words.CheckWords.{CheckWords}
use Rattle.command_line.specs.declared.words.JudgeWords.{JudgeWords}
use Rattle.command_line.specs.declared.words.ProxyWords.{ProxyWords}

-- nothing is given of what is no verdict
nothing_given : {A : Type 0} → ⊥ ↔ (A × ⊥)
nothing_given = (λ g. absurd g, λ p. p.1)

-- where less is reported, as much is given
less_given : (explanation : Explanation) → IsGiven (without_trials explanation) ↔ IsGiven explanation
less_given explanations.Absent = (λ g. g, λ g. g)
less_given (explanations.Trials trials) = (λ g. g, λ g. g)
less_given (explanations.Unavailable cause) = (λ g. g, λ g. g)

-- a bare finding has no explanation
none_given : (f : Finding) → f ≡ bare f.outcome → ¬ (IsGiven f.explanation)
none_given f is =
    let absent : f.explanation ≡ explanations.Absent = ap (λ (x : Finding). x.explanation) is in
    rw absent (λ g. g)

module _ (out out_new errors errors_new : Option (List ℕ)) (status : ℕ) (json : Bool)
    (Comes : Result Report JobFault → Type 0) where
  -- the job ends with its result as it was printed
  end_of_result : ((report printed : Report) (why : Why) → Comes (Ok report)
      → IsPrintedFor (with_why why report) printed → Comes (Ok printed))
      → (found : Result Report JobFault) → Comes found
      → EndsResult out out_new errors errors_new status json found
      → EndsReport out out_new errors errors_new status json Comes
  end_of_result same (Ok report) comes ends =
      EndsReport.ended (Ok ends.printed) (same report ends.printed ends.why comes ends.same) ends.left
  end_of_result same (Err fault) comes (inl left) = EndsReport.ended (Err fault) comes left
  end_of_result same (Err fault) comes (inr none) = EndsReport.memory none

module _ (holds : List ℕ → List ℕ → Type 0) (lacks : (List ℕ × IoError) → Type 0) where
  -- the check comes to the report of what it finds
  pub checks_to : (words : CheckWords) (found : Result Finding JobFault) (ended : Result Report JobFault)
      → IfOk found (λ f. IsCheckedAs holds lacks (string_bytes words.policy) words.budget f.outcome)
      → IfOk found (λ f. f ≡ bare f.outcome)
      → IfErr found (MemoryOrStop (IsUnread holds lacks (string_bytes words.policy)))
      → IfOk found (λ f. ended ≡ Ok (report_with words.json f))
      → (found ≡ Err faults.Memory → ended ≡ Ok (report_with words.json (bare outcomes.Memory)))
      → IfErr found (λ e. e ≢ faults.Memory → ended ≡ Err e)
      → ChecksTo holds lacks words ended
  checks_to words (Ok f) ended finds is stops kept memory others = rw kept (refl, none_given f is, inr finds)
  checks_to words (Err e) ended finds is (inl none) kept memory others =
      rw (memory (ap Err none)) (refl, (λ g. g), inl refl)
  checks_to words (Err e) ended finds is (inr unread) kept memory others =
      rw (others (λ none. rw none at unread)) unread

  -- and to what is printed of that report
  checks_as : (words : CheckWords) (report printed : Report) (why : Why) → ChecksTo holds lacks words (Ok report)
      → IsPrintedFor (with_why why report) printed → ChecksTo holds lacks words (Ok printed)
  checks_as words report printed why comes (inl same) = rw same comes
  checks_as words report printed why (json, none, finds) (inr (inl less)) =
      rw less (json, (λ g. none ((less_given report.explanation).0 g)), finds)
  checks_as words report printed why (json, none, finds) (inr (inr out_of)) = rw out_of (json, (λ g. g), inl refl)

  module _ (out out_new errors errors_new : Option (List ℕ)) (status : ℕ) where
    -- the check ends with what it comes to, as it was printed
    pub end_of_check : (words : CheckWords) (found : Result Report JobFault) → ChecksTo holds lacks words found
        → EndsResult out out_new errors errors_new status words.json found
        → EndsReport out out_new errors errors_new status words.json (ChecksTo holds lacks words)
    end_of_check words found comes ends =
        end_of_result out out_new errors errors_new status words.json (ChecksTo holds lacks words) (checks_as words) found
        comes ends

module _ (holds : List ℕ → List ℕ → Type 0) (lacks : (List ℕ × IoError) → Type 0) (input : Option (List ℕ)) where
  -- running out of memory stops no judgement: it is an outcome
  pub never_by_memory : (policy : List ℕ) (facts : Option (List ℕ)) (budget : Budget)
      → ¬ (StopsBy holds lacks policy facts budget input faults.Memory)
  never_by_memory policy facts budget stops = elim stops [
    | StopsBy.no_policy unread ↦ unread
    | StopsBy.no_facts policy path read named unread ↦ unread
    | StopsBy.bad_facts policy path read named bad ↦ let differ = bad.3 in cc
    | StopsBy.no_input policy facts read conn admits fails ↦ fails
  ]

  -- the judgement comes to the report of what it finds
  pub judges_to : (words : JudgeWords) (found : Result Finding JobFault) (ended : Result Report JobFault)
      → IfOk found (λ f. IsJudgedAs holds lacks (string_bytes words.policy) (option_map string_bytes words.facts)
      words.budget input (option_map string_bytes f.name) f.explanation f.outcome)
      → IfOk found (λ f. IsGiven f.explanation ↔ (IsTrue words.explain × IsDecision f.outcome))
      → IfErr found (MemoryOrStop (StopsBy holds lacks (string_bytes words.policy)
      (option_map string_bytes words.facts) words.budget input))
      → IfOk found (λ f. ended ≡ Ok (report_with words.json f))
      → (found ≡ Err faults.Memory → ended ≡ Ok (report_with words.json (bare outcomes.Memory)))
      → IfErr found (λ e. e ≢ faults.Memory → ended ≡ Err e)
      → JudgesTo holds lacks input words ended
  judges_to words (Ok f) ended finds given stops kept memory others = rw kept (refl, given, inr finds)
  judges_to words (Err e) ended finds given (inl none) kept memory others =
      rw (memory (ap Err none)) (refl, nothing_given, inl refl)
  judges_to words (Err e) ended finds given (inr stops) kept memory others =
      rw (others (λ none. never_by_memory _ _ _ (rw none at stops))) stops

  -- and to what is printed of that report
  judges_as : (words : JudgeWords) (report printed : Report) (why : Why) → JudgesTo holds lacks input words (Ok report)
      → IsPrintedFor (with_why why report) printed → JudgesTo holds lacks input words (Ok printed)
  judges_as words report printed why comes (inl same) = rw same comes
  judges_as words report printed why (json, given, finds) (inr (inl less)) = rw less (
    json,
    (λ g. given.0 ((less_given report.explanation).0 g), λ p. (less_given report.explanation).1 (given.1 p)),
    elim finds [
      | inl none ↦ inl none
      | inr found ↦ inr (record {
        policy = found.policy;
        facts = found.facts;
        bytes = found.bytes;
        read = found.read;
        conn = found.conn;
        all = found.all;
        found = less_found found.policy words.budget found.facts found.bytes _ report.explanation report.outcome found.found;
      })
    ],
  )
  judges_as words report printed why (json, given, finds) (inr (inr out_of)) =
      rw out_of (json, nothing_given, inl refl)

  module _ (out out_new errors errors_new : Option (List ℕ)) (status : ℕ) where
    -- the judgement ends with what it comes to, as it was printed
    pub end_of_judge : (words : JudgeWords) (found : Result Report JobFault) → JudgesTo holds lacks input words found
        → EndsResult out out_new errors errors_new status words.json found
        → EndsReport out out_new errors errors_new status words.json (JudgesTo holds lacks input words)
    end_of_judge words found comes ends =
        end_of_result out out_new errors errors_new status words.json (JudgesTo holds lacks input words) (judges_as words)
        found comes ends

module _ (out out_new errors errors_new : Option (List ℕ)) (status : ℕ) (fault : JobFault) where
  -- a fault is reported in words, or out of memory
  pub of_reported : (reported : JobFault) → (reported ≡ fault) ⊎ (reported ≡ faults.Memory)
      → LeavesFault out out_new errors errors_new status reported
      → EndsResult out out_new errors errors_new status false (Err fault)
  of_reported reported (inl same) left = inl (rw same at left)
  of_reported reported (inr none) left = inr (rw none at left)

  -- or with JSON
  pub of_object : LeavesObject out out_new errors errors_new status fault
      ⊎ LeavesFault out out_new errors errors_new status faults.Memory
      → EndsResult out out_new errors errors_new status true (Err fault)
  of_object (inl left) = inl left
  of_object (inr none) = inr none

module _ (holds : List ℕ → List ℕ → Type 0) (lacks : (List ℕ × IoError) → Type 0)
    (out out_new errors errors_new : Option (List ℕ)) (status : ℕ) where
  -- where there is no configuration, that is reported, or out of memory
  pub end_of_config : (path : List ℕ) (fault reported : JobFault) → MemoryOrStop (LacksConfig holds lacks path) fault
      → (reported ≡ fault) ⊎ (reported ≡ faults.Memory) → LeavesFault out out_new errors errors_new status reported
      → EndsConfig holds lacks out out_new errors errors_new status path
  end_of_config path fault reported (inl none) (inl same) left = EndsConfig.memory (rw (same, none) at left)
  end_of_config path fault reported (inr lacking) (inl same) left = EndsConfig.lacking fault lacking (rw same at left)
  end_of_config path fault reported stops (inr none) left = EndsConfig.memory (rw none at left)

  -- and where a replay needs it
  pub end_of_replay : (path : List ℕ) (only : Option ℕ) (input : Option (List ℕ)) (fault reported : JobFault)
      → MemoryOrStop (LacksConfig holds lacks path) fault
      → (reported ≡ fault) ⊎ (reported ≡ faults.Memory) → LeavesFault out out_new errors errors_new status reported
      → EndsReplay holds lacks out out_new errors errors_new status path only input
  end_of_replay path only input fault reported (inl none) (inl same) left = EndsReplay.memory (rw (same, none) at left)
  end_of_replay path only input fault reported (inr lacking) (inl same) left =
      EndsReplay.lacking fault lacking (rw same at left)
  end_of_replay path only input fault reported stops (inr none) left = EndsReplay.memory (rw none at left)

module _ (holds : List ℕ → List ℕ → Type 0) (lacks : (List ℕ × IoError) → Type 0)
    (connects accepts : List ℕ → Option Link → Type 0) (out out_new errors errors_new : Option (List ℕ)) (status : ℕ) where
  -- where a control plane does not serve, that is reported, or out of memory
  pub end_of_control : (words : ControlWords) (fault reported : JobFault)
      → MemoryOrStop (StopsControl holds lacks words) fault
      → (reported ≡ fault) ⊎ (reported ≡ faults.Memory) → LeavesFault out out_new errors errors_new status reported
      → EndsControl holds lacks connects accepts out out_new errors errors_new status words
  end_of_control words fault reported (inl none) (inl same) left = EndsControl.memory (rw (same, none) at left)
  end_of_control words fault reported (inr stops) (inl same) left = EndsControl.stopped fault stops (rw same at left)
  end_of_control words fault reported stops (inr none) left = EndsControl.memory (rw none at left)

  -- where a proxy runs no round
  pub end_of_proxy : (words : ProxyWords) (fault reported : JobFault) → MemoryOrStop (StopsProxy holds lacks words) fault
      → (reported ≡ fault) ⊎ (reported ≡ faults.Memory) → LeavesFault out out_new errors errors_new status reported
      → EndsProxy holds lacks connects accepts out out_new errors errors_new status words
  end_of_proxy words fault reported (inl none) (inl same) left = EndsProxy.memory (rw (same, none) at left)
  end_of_proxy words fault reported (inr stops) (inl same) left = EndsProxy.stopped fault stops (rw same at left)
  end_of_proxy words fault reported stops (inr none) left = EndsProxy.memory (rw none at left)
