-- The jobs of the program: what each reads, which fault counts first, what it writes to its two outputs, and its status.
use Rattle.std.specs.Prelude.{◌≡◌, ◌≢◌, ◌<◌, ◌^◌, ◌⊎◌, ◌↔◌, ◌++◌, ◌∷◌, [], ⊤, true, false, ℕ, Bool, List, Option, Some, None, Ok, Err, Result, IsTrue, codes, length, map, option_map, string_bytes}
use Rattle.std.specs.List.{AllZip}
use Rattle.std.specs.Io.KnownBytes.{Appends}
use Rattle.std.specs.Io.{StartsWith}
use Rattle.std.specs.IoError.{error_kind}
use Rattle.std.specs.declared.io.Error.{Error as IoError}
use Rattle.std.specs.declared.io.ErrorKind.{ErrorKind as IoKind}
use Rattle.attributes.specs.Conn.{Facts}
use Rattle.attributes.specs.Limits.{FactsInLimits, LimitsValue, largest}
use Rattle.xds_wire.specs.Discovery.{IsResponse, ResponseMessage}
use Rattle.xds_wire.specs.Frames.{frame_of}
use Rattle.ads.specs.Answer.{FirstOf, IsResource, extension_type}
use Rattle.ads.specs.Control.{ControlValue, ResourceValue, extension_of, new_control}
use Rattle.proxy_core.specs.Step.{ProxyValue, new_proxy}
use Rattle.clap.specs.Words.{Text, kind_of}
use Rattle.clap.specs.declared.error.kind.ErrorKind.{ErrorKind}
use Rattle.clap.specs.declared.error.kind.ErrorKind.TheVariants as kinds
use Rattle.cost_bound.specs.declared.budget.Budget.{Budget}
use Rattle.rbac_policy.specs.Admission.{Admissible}
use Rattle.proto_wire.specs.declared.refusal.Refusal.{Refusal}
use Rattle.rbac_judge.specs.Explain.{IsGiven, unavailable_text}
use Rattle.ads.specs.Config.{ConfigValue}
use Rattle.proxy_replay.specs.Configuration.{IsConfigText}
use Rattle.std.specs.Fmt.{decimal}
use Rattle.program_texts.specs.Facts.{IsFactsText, MeansNoFacts}
use Rattle.proxy_replay.specs.Replays.{IsReplayed, IsStopped}
use Rattle.program_texts.specs.declared.replay_fault.ReplayFault.{ReplayFault}
use Rattle.program_texts.specs.declared.replay_fault.ReplayFault.TheVariants as replay_faults
use Rattle.rbac_judge.specs.Batches.{IsBatch, IsCutShort}
use Rattle.rbac_judge.specs.Judging.{IsAllOf, IsCheckOf, IsDecision, IsOutcomeOf, IsRefusedFor, plain_facts}
use Rattle.serde_json.specs.Written.{compact_text}
use Rattle.rbac_judge.specs.Json.{fault_json}
use Rattle.rbac_judge.specs.Outcome.{line_of, printed_of, status_of}
use Rattle.program_texts.specs.Output.{BreaksOff, Takes}
use Rattle.stream_pumps.specs.Rounds.{Link, Rounds, ServesOneStream}
use Rattle.program_texts.specs.Shown.{shown}
use Rattle.rbac_judge.specs.declared.explain.Explanation.{Explanation}
use Rattle.rbac_judge.specs.declared.explain.Explanation.TheVariants as explanations
use Rattle.command_line.specs.declared.control_words.ControlWords.{ControlWords}
use Rattle.command_line.specs.declared.control_words.SnapshotFiles.{SnapshotFiles}
use Rattle.command_line.specs.declared.control_words.SnapshotFiles.TheVariants.{Filters, Responses}
use Rattle.command_line.specs.declared.words.BatchWords.{BatchWords}
use Rattle.command_line.specs.declared.words.CheckWords.{CheckWords}
use Rattle.command_line.specs.declared.words.JudgeWords.{JudgeWords}
use Rattle.command_line.specs.declared.words.ProxyWords.{ProxyWords}
use Rattle.rbac_judge.specs.declared.outcome.Outcome.{Outcome}
use Rattle.rbac_judge.specs.declared.outcome.Outcome.TheVariants as outcomes
use Rattle.rbac_judge.specs.declared.report.Report.{Report}
use Rattle.program_jobs.specs.declared.job_fault.JobFault.{JobFault}
use Rattle.program_jobs.specs.declared.job_fault.JobFault.TheVariants as faults

-- parameters, a source of files: which bytes the file at a path holds, and which file cannot be read, with the cause
module _ (holds : Text → Text → Type 0) (lacks : (Text × IoError) → Type 0) where
  -- the connection has the facts of the facts file; if no file is named, it is a plain one
  abbrev pub IsConnOf : Option Text → Facts → Type 0
  IsConnOf None facts = facts ≡ plain_facts
  IsConnOf (Some path) facts =
      (text : Text) × holds path text × IsFactsText text facts × FactsInLimits facts largest

  -- the fault says that the file at this path cannot be read, with the cause
  abbrev pub IsUnread : Text → JobFault → Type 0
  IsUnread path (faults.File name cause) = (string_bytes name ≡ path) × lacks (path, cause)
  IsUnread path _ = ⊥

  -- the file at this path holds no facts within the limits
  abbrev pub HasBadFacts : Text → JobFault → Type 0
  HasBadFacts path fault =
      (text : Text) × holds path text × MeansNoFacts text × (fault ≡ faults.Facts)

  -- the fault says that the input cannot be read, and the cause is not out of memory
  abbrev pub IsInputFault : JobFault → Type 0
  IsInputFault (faults.Input cause) = error_kind cause ≢ IoKind.OutOfMemory
  IsInputFault _ = ⊥

  -- the file at this path holds this configuration
  abbrev pub IsConfigOf : Text → ConfigValue → Type 0
  IsConfigOf path c = (text : Text) × holds path text × IsConfigText text c

  -- the file at this path cannot be read, or holds no configuration
  abbrev pub LacksConfig : Text → JobFault → Type 0
  LacksConfig path fault = IsUnread path fault
      ⊎ ((text : Text) × holds path text × ((c : ConfigValue) → ¬ IsConfigText text c) × (fault ≡ faults.Config))

  -- the outcome is that of checking the policy file at this path
  pub record IsCheckedAs (policy_path : Text) (budget : Budget) (outcome : Outcome) : Type 0 where
    pub policy : Text
    pub read : holds policy_path policy
    pub found : IsCheckOf policy budget outcome

  -- parameters of a judgement: the paths of the policy file and of the facts file, if one is named, the budget, and the
  -- input
  module _ (policy_path : Text) (facts_path : Option Text) (budget : Budget) (input : Option Text) where
    -- the outcome is that of the files and of all bytes of the input, with the name of the policy that matched and the
    -- explanation
    pub record IsJudgedAs (name : Option Text) (explanation : Explanation) (outcome : Outcome)
        : Type 0 where
      pub policy : Text
      pub facts : Facts
      pub bytes : Text
      pub read : holds policy_path policy
      pub conn : IsConnOf facts_path facts
      pub all : IsAllOf input bytes
      pub found : IsOutcomeOf policy budget facts bytes name explanation outcome

    -- this fault stops the judgement, and nothing that is read before it has a fault
    pub data StopsBy (fault : JobFault) : Type 0 where
      no_policy : IsUnread policy_path fault → StopsBy fault
      no_facts : (policy path : Text) → holds policy_path policy → facts_path ≡ Some path
          → IsUnread path fault → StopsBy fault
      bad_facts : (policy path : Text) → holds policy_path policy → facts_path ≡ Some path
          → HasBadFacts path fault → StopsBy fault
      no_input : (policy : Text) (facts : Facts) → holds policy_path policy
          → IsConnOf facts_path facts → Admissible policy largest budget → IsInputFault fault
          → StopsBy fault

  -- the result of a check: a report without an explanation, or the fault that stops it
  abbrev pub ChecksTo : CheckWords → Result Report JobFault → Type 0
  ChecksTo words (Ok report) = (report.json ≡ words.json) × (¬ IsGiven report.explanation)
      × ((report.outcome ≡ outcomes.Memory) ⊎ IsCheckedAs (string_bytes words.policy) words.budget report.outcome)
  ChecksTo words (Err fault) = IsUnread (string_bytes words.policy) fault

  -- the result of a judgement of this input: a report, or the fault that stops it. The report has an explanation exactly
  -- if the words ask for one and there is a verdict to explain
  abbrev pub JudgesTo : Option Text → JudgeWords → Result Report JobFault → Type 0
  JudgesTo input words (Ok report) = (report.json ≡ words.json)
      × (IsGiven report.explanation ↔ (IsTrue words.explain × IsDecision report.outcome))
      × ((report.outcome ≡ outcomes.Memory)
      ⊎ IsJudgedAs (string_bytes words.policy) (option_map string_bytes words.facts) words.budget input
      (option_map string_bytes report.name) report.explanation report.outcome)
  JudgesTo input words (Err fault) =
      StopsBy (string_bytes words.policy) (option_map string_bytes words.facts) words.budget input fault

-- the first line of a fault on standard error, if it has one
abbrev pub first_line : JobFault → Text
first_line (faults.Words error) = []
first_line (faults.File path cause) = codes "cannot read " ++ shown (string_bytes path) ++ 10 ∷ []
first_line faults.Facts = codes "bad facts" ++ 10 ∷ []
first_line faults.Config = codes "bad config" ++ 10 ∷ []
first_line (faults.Input cause) = codes "cannot read standard input" ++ 10 ∷ []
first_line (faults.Log path cause) = codes "cannot write " ++ shown (string_bytes path) ++ 10 ∷ []
first_line (faults.Listen address cause) = codes "cannot listen " ++ shown (string_bytes address) ++ 10 ∷ []
first_line faults.Memory = []

-- the status of a fault
abbrev pub status_of_fault : JobFault → ℕ
status_of_fault faults.Facts = 6
status_of_fault faults.Config = 6
status_of_fault faults.Memory = 5
status_of_fault fault = 2

-- the words of a fault that stops a job with a report
abbrev pub fault_words : JobFault → Text
fault_words (faults.File path cause) = codes "cannot read " ++ shown (string_bytes path)
fault_words faults.Facts = codes "bad facts"
fault_words (faults.Input cause) = codes "cannot read standard input"
fault_words fault = []

-- the line with the fault's JSON object
abbrev pub fault_object : JobFault → Text → Text
fault_object fault cause = compact_text (fault_json (fault_words fault) cause) ++ 10 ∷ []

-- the words only ask for a text: the help or the version
abbrev pub IsShown : ErrorKind → Type 0
IsShown kind = (kind ≡ kinds.DisplayHelp) ⊎ (kind ≡ kinds.DisplayVersion)

-- standard error for a verdict: if the trials cannot be shown, the cause is written; otherwise nothing is
abbrev pub WritesCause : Option Text → Option Text → Explanation → Type 0
WritesCause errors errors_new explanations.Absent = errors_new ≡ errors
WritesCause errors errors_new (explanations.Trials trials) = errors_new ≡ errors
WritesCause errors errors_new (explanations.Unavailable cause) = Takes errors errors_new (unavailable_text cause)

-- standard error for an outcome: any text after a refusal or a head's fault; otherwise as for a verdict
abbrev pub WritesCauseFor : Option Text → Option Text → Explanation → Outcome → Type 0
WritesCauseFor errors errors_new explanation (outcomes.Refused reason) = ⊤
WritesCauseFor errors errors_new explanation (outcomes.Fault fault) = ⊤
WritesCauseFor errors errors_new explanation _ = WritesCause errors errors_new explanation

-- parameters: the bytes of the two outputs before a run (`out` and `errors`) and after it (`out_new` and `errors_new`),
-- and its status
module _ (out out_new errors errors_new : Option Text) (status : ℕ) where
  -- the text is written to standard output, with this status, and nothing to standard error; or the output breaks off,
  -- with status 2
  abbrev pub Prints : ℕ → Text → Type 0
  Prints good text = ((status ≡ good) × Appends out out_new text × (errors_new ≡ errors))
      ⊎ ((status ≡ 2) × BreaksOff out out_new text)

  -- nothing is written to standard output, and this is the status. A text that begins with `text` is written to
  -- standard error, or a beginning of it, if that fails
  abbrev pub WritesError : ℕ → Text → Type 0
  WritesError bad text = (status ≡ bad) × (out_new ≡ out)
      × ((reported : Text) × StartsWith reported text × Takes errors errors_new reported)

  -- if the words ask for a text, it is written to standard output, with status 0. Otherwise some text is written to
  -- standard error, with status 2
  abbrev pub WritesWords : ErrorKind → Type 0
  WritesWords kind = (IsShown kind × ((text : Text) × Prints 0 text))
      ⊎ ((¬ IsShown kind) × WritesError 2 [])

  -- the outputs and the status of a run that this fault stops
  abbrev pub LeavesFault : JobFault → Type 0
  LeavesFault (faults.Words error) = WritesWords (kind_of error)
  LeavesFault (faults.File path cause) = WritesError 2 (first_line (faults.File path cause))
  LeavesFault faults.Facts = WritesError 6 (first_line faults.Facts)
  LeavesFault faults.Config = WritesError 6 (first_line faults.Config)
  LeavesFault (faults.Input cause) = WritesError 2 (first_line (faults.Input cause))
  LeavesFault (faults.Log path cause) = WritesError 2 (first_line (faults.Log path cause))
  LeavesFault (faults.Listen address cause) = WritesError 2 (first_line (faults.Listen address cause))
  LeavesFault faults.Memory = Prints 5 (line_of outcomes.Memory)

  -- the fault's object, with some cause, is written to standard output, and its line to standard error, unless that
  -- fails. Or standard output breaks off
  abbrev pub LeavesObject : JobFault → Type 0
  LeavesObject fault = (cause : Text) × (((status ≡ status_of_fault fault) × Appends out out_new (fault_object fault cause)
      × ((reported : Text) × StartsWith reported (first_line fault) × Takes errors errors_new reported))
      ⊎ ((status ≡ 2) × BreaksOff out out_new (fault_object fault cause)))

  -- the outputs and the status of a job with a report that this fault stops, with or without a JSON object
  abbrev pub LeavesAs : Bool → JobFault → Type 0
  LeavesAs true fault = LeavesObject fault
  LeavesAs false fault = LeavesFault fault

  -- the text of the report is written to standard output
  abbrev pub PrintsReport : Report → Type 0
  PrintsReport report = ((status ≡ status_of report.outcome) × Appends out out_new (printed_of report)
      × WritesCauseFor errors errors_new report.explanation report.outcome)
      ⊎ ((status ≡ 2) × BreaksOff out out_new (printed_of report))

  -- the outputs and the status for this result of a job, as JSON or in words
  abbrev pub Leaves : Bool → Result Report JobFault → Type 0
  Leaves json (Ok report) = PrintsReport report
  Leaves json (Err fault) = LeavesAs json fault

  -- a job with such a result has one, which is printed; or memory ran out
  pub data EndsReport (json : Bool) (Comes : Result Report JobFault → Type 0) : Type 0 where
    ended : (found : Result Report JobFault) → Comes found → Leaves json found → EndsReport json Comes
    memory : LeavesFault faults.Memory → EndsReport json Comes

-- the first line on standard error for an input line that is no event
abbrev pub bad_line : ℕ → Text
bad_line number = codes "bad line " ++ (decimal number ++ (10 ∷ []))

-- a text that begins with the line for a bad line is written to standard error, with status 6. Or memory ran out, with
-- status 5
abbrev pub WritesLine : Option Text → Option Text → ℕ → ℕ → Type 0
WritesLine errors errors_new status number = ((status ≡ 5) × (errors_new ≡ errors))
    ⊎ ((status ≡ 6) × ((reported : Text) × StartsWith reported (bad_line number) × Takes errors errors_new reported))

-- standard error and the status of a replay or a batch that ended before its input did. The answers until then are on standard
-- output
abbrev pub LeavesReplay : Option Text → Option Text → ℕ → ReplayFault → Type 0
LeavesReplay errors errors_new status (replay_faults.Line number cause) = WritesLine errors errors_new status number
LeavesReplay errors errors_new status (replay_faults.Input cause) = (status ≡ 5) ⊎ (status ≡ 2)
LeavesReplay errors errors_new status (replay_faults.Output cause) = status ≡ 2
LeavesReplay errors errors_new status replay_faults.Memory = (status ≡ 5) × (errors_new ≡ errors)

-- parameters: a source of files, an input, the outputs before and after a run, and its status
module _ (holds : Text → Text → Type 0) (lacks : (Text × IoError) → Type 0) (input : Option Text)
    (out out_new errors errors_new : Option Text) (status : ℕ) where
  -- parameters of a batch: its words
  module _ (words : BatchWords) where
    -- the heads are judged by this policy, which is admitted, and lines without facts have these
    pub record IsBasis (policy : Text) (facts : Facts) : Type 0 where
      pub read : holds (string_bytes words.policy) policy
      pub conn : IsConnOf holds lacks (option_map string_bytes words.facts) facts
      pub admissible : Admissible policy largest words.budget

    -- why no line is read: the policy is refused, memory ran out, or a fault stops the job
    abbrev pub IsNoBatch : Result Report JobFault → Type 0
    IsNoBatch (Ok report) = (report.json ≡ words.json) × ((report.outcome ≡ outcomes.Memory)
        ⊎ ((policy : Text) × (reason : Refusal) × holds (string_bytes words.policy) policy
        × IsRefusedFor policy words.budget reason × (report.outcome ≡ outcomes.Refused reason)))
    IsNoBatch (Err fault) =
        StopsBy holds lacks (string_bytes words.policy) (option_map string_bytes words.facts) words.budget input fault

    -- every line was answered; or a fault ended the batch after some lines, or before the first; or memory ran out
    pub data EndsBatch : Type 0 where
      whole : (policy : Text) (facts : Facts) (input_new : Option Text) → IsBasis policy facts
          → IsBatch policy words.budget facts words.explain input out input_new out_new → status ≡ 0
          → errors_new ≡ errors → EndsBatch
      short : (policy : Text) (facts : Facts) (fault : ReplayFault) → IsBasis policy facts
          → IsCutShort policy words.budget facts words.explain input out fault out_new
          → LeavesReplay errors errors_new status fault → EndsBatch
      none : (found : Result Report JobFault) → IsNoBatch found
          → Leaves out out_new errors errors_new status words.json found → EndsBatch
      memory : LeavesFault out out_new errors errors_new status faults.Memory → EndsBatch

-- the file at this path holds a configuration, and its meaning is printed; or the fault is printed, or memory ran out
module _ (holds : Text → Text → Type 0) (lacks : (Text × IoError) → Type 0)
    (out out_new errors errors_new : Option Text) (status : ℕ) (path : Text) where
  pub data EndsConfig : Type 0 where
    meant : (c : ConfigValue) (text : Text) → IsConfigOf holds lacks path c
        → Prints out out_new errors errors_new status 0 text → EndsConfig
    lacking : (fault : JobFault) → LacksConfig holds lacks path fault
        → LeavesFault out out_new errors errors_new status fault → EndsConfig
    memory : LeavesFault out out_new errors errors_new status faults.Memory → EndsConfig

  -- the file at this path holds a configuration, and the input is replayed with it, up to its end or to a fault. If a
  -- connection is named, it alone is replayed
  module _ (only : Option ℕ) (input : Option Text) where
    pub data EndsReplay : Type 0 where
      whole : (c : ConfigValue) (input_new : Option Text) → IsConfigOf holds lacks path c
          → IsReplayed c only input out input_new out_new → status ≡ 0 → errors_new ≡ errors → EndsReplay
      stopped : (c : ConfigValue) (input_new : Option Text) (fault : ReplayFault) → IsConfigOf holds lacks path c
          → IsStopped c only input out fault input_new out_new
          → LeavesReplay errors errors_new status fault → EndsReplay
      lacking : (fault : JobFault) → LacksConfig holds lacks path fault
          → LeavesFault out out_new errors errors_new status fault → EndsReplay
      memory : LeavesFault out out_new errors errors_new status faults.Memory → EndsReplay

-- the fault says that the program cannot listen at this address
abbrev pub CannotListen : Text → JobFault → Type 0
CannotListen address (faults.Listen name cause) = string_bytes name ≡ address
CannotListen address _ = ⊥

-- the fault says that the log at this path cannot be opened
abbrev pub CannotLog : Option Text → JobFault → Type 0
CannotLog log (faults.Log path cause) = log ≡ Some (string_bytes path)
CannotLog log _ = ⊥

-- the streams of a control plane: those that are accepted, or, if they are calls of gRPC, any
abbrev pub streams_of : Bool → (Option Link → Type 0) → Option Link → Type 0
streams_of false accepts = accepts
streams_of true accepts = λ _. ⊤

-- the line for the last acknowledged number
abbrev pub acknowledged_line : Option ℕ → Text
acknowledged_line (Some number) = codes "acknowledged " ++ decimal number ++ 10 ∷ []
acknowledged_line None = codes "acknowledged none" ++ 10 ∷ []

-- the bytes are one frame, with this message
abbrev pub IsFrame : Text → Text → Type 0
IsFrame bytes message = (length message < 2 ^ 32) × (bytes ≡ frame_of message)

-- the message of a file: that of its frame, if its bytes are one frame; otherwise all its bytes
abbrev pub IsMessageIn : Text → Text → Type 0
IsMessageIn bytes message = IsFrame bytes message ⊎ ((message ≡ bytes) × ((other : Text) → ¬ (IsFrame bytes other)))

-- the message is a response of named filters, and these are its filters with their names
pub record IsResponseWith (message : Text) (snapshot : List ResourceValue) : Type 0 where
  pub response : ResponseMessage
  pub reads : IsResponse message response
  pub type_url : response.type_url ≡ extension_type
  pub resources : AllZip (λ any r. IsResource any (extension_of r)) response.resources snapshot

-- the bytes hold a response of these filters, with or without its frame
abbrev pub HoldsSnapshot : Text → List ResourceValue → Type 0
HoldsSnapshot bytes snapshot = (message : Text) × IsMessageIn bytes message × IsResponseWith message snapshot

module _ (holds : Text → Text → Type 0) (lacks : (Text × IoError) → Type 0) where
  -- the filters of a snapshot have these names and the bytes of the files at these paths, each in order
  abbrev pub IsNamedSnapshot : List Text → List Text → List ResourceValue → Type 0
  IsNamedSnapshot names paths snapshot = (map (λ (r : ResourceValue). r.name) snapshot ≡ names)
      × AllZip (λ path (r : ResourceValue). holds path r.filter) paths snapshot

  -- the first snapshot has the first files, one for each name, and the other snapshots have the other files
  abbrev pub AreNamedSnapshots : List Text → List Text → List (List ResourceValue) → Type 0
  AreNamedSnapshots names paths [] = paths ≡ []
  AreNamedSnapshots names paths (snapshot ∷ snapshots) = (first others : List Text) × (paths ≡ first ++ others)
      × IsNamedSnapshot names first snapshot × AreNamedSnapshots names others snapshots

  -- the snapshot is that of the response in the file at this path
  abbrev pub IsResponseAt : Text → List ResourceValue → Type 0
  IsResponseAt path snapshot = (bytes : Text) × holds path bytes × HoldsSnapshot bytes snapshot

  -- the snapshots are those of these files
  abbrev pub AreSnapshotsOf : SnapshotFiles → List (List ResourceValue) → Type 0
  AreSnapshotsOf (Filters names files) snapshots =
      AreNamedSnapshots (map string_bytes names.items) (map string_bytes files.items) snapshots
  AreSnapshotsOf (Responses files) snapshots = AllZip IsResponseAt (map string_bytes files.items) snapshots

  -- the fault says that one of the files cannot be read; those before it can
  abbrev pub LacksFile : List Text → JobFault → Type 0
  LacksFile paths fault = FirstOf (λ path. (bytes : Text) × holds path bytes) (λ path. IsUnread holds lacks path fault) paths

  -- the fault names the file at this path, which holds no response of filters
  abbrev pub NamesNoResponse : Text → JobFault → Type 0
  NamesNoResponse path (faults.File name cause) = (string_bytes name ≡ path) × ((bytes : Text) × holds path bytes
      × ((snapshot : List ResourceValue) → ¬ HoldsSnapshot bytes snapshot))
  NamesNoResponse path _ = ⊥

  -- the fault says that one of the files cannot be read, or names one with no response; those before it have one
  abbrev pub LacksResponse : List Text → JobFault → Type 0
  LacksResponse paths fault = FirstOf (λ path. (snapshot : List ResourceValue) × IsResponseAt path snapshot)
      (λ path. IsUnread holds lacks path fault ⊎ NamesNoResponse path fault) paths

  -- the fault of one of the files, of which those before it have none
  abbrev pub LacksSnapshot : SnapshotFiles → JobFault → Type 0
  LacksSnapshot (Filters names files) fault = LacksFile (map string_bytes files.items) fault
  LacksSnapshot (Responses files) fault = LacksResponse (map string_bytes files.items) fault

  -- the fault that stops a control plane. It reads the files first, then opens the log, and then listens
  pub data StopsControl (words : ControlWords) (fault : JobFault) : Type 0 where
    no_file : LacksSnapshot words.snapshots fault → StopsControl words fault
    no_log : (snapshots : List (List ResourceValue)) → AreSnapshotsOf words.snapshots snapshots
        → CannotLog (option_map string_bytes words.log) fault → StopsControl words fault
    no_listener : (snapshots : List (List ResourceValue)) → AreSnapshotsOf words.snapshots snapshots
        → CannotListen (string_bytes words.listen) fault → StopsControl words fault

  -- the facts file cannot be read or holds no facts, or the facts are outside the limits
  pub data LacksFit (facts_path : Option Text) (limits : LimitsValue) (fault : JobFault) : Type 0 where
    no_facts : (path : Text) → facts_path ≡ Some path
        → IsUnread holds lacks path fault ⊎ HasBadFacts holds lacks path fault → LacksFit facts_path limits fault
    unfit : (facts : Facts) → IsConnOf holds lacks facts_path facts → ¬ FactsInLimits facts limits
        → fault ≡ faults.Facts → LacksFit facts_path limits fault

  -- the configuration and the facts on the command line; the facts are within the configuration's limits
  pub record IsConfigured (words : ProxyWords) (c : ConfigValue) (facts : Facts) : Type 0 where
    pub config : IsConfigOf holds lacks (string_bytes words.config) c
    pub conn : IsConnOf holds lacks (option_map string_bytes words.facts) facts
    pub fits : FactsInLimits facts c.limits

  -- the fault that stops a proxy. It reads the configuration first, then the facts, then opens the log, and then
  -- listens
  pub data StopsProxy (words : ProxyWords) (fault : JobFault) : Type 0 where
    no_config : LacksConfig holds lacks (string_bytes words.config) fault → StopsProxy words fault
    no_facts : (c : ConfigValue) → IsConfigOf holds lacks (string_bytes words.config) c
        → LacksFit (option_map string_bytes words.facts) c.limits fault → StopsProxy words fault
    no_log : (c : ConfigValue) (facts : Facts) → IsConfigured words c facts
        → CannotLog (option_map string_bytes words.log) fault → StopsProxy words fault
    no_listener : (c : ConfigValue) (facts : Facts) → IsConfigured words c facts
        → CannotListen (string_bytes words.listen) fault → StopsProxy words fault

-- parameters: a source of files, and sockets. `connects` says which stream connecting to an address gives, or that it
-- gives none; `accepts` the same of a listener at an address
module _ (holds : Text → Text → Type 0) (lacks : (Text × IoError) → Type 0)
    (connects accepts : Text → Option Link → Type 0) where
  -- a control plane, run as the command line says, served one stream, if one was accepted, and this number was the last
  -- acknowledged
  pub record IsServed (words : ControlWords) (acknowledged : Option ℕ) : Type 0 where
    pub snapshots : List (List ResourceValue)
    pub read : AreSnapshotsOf holds lacks words.snapshots snapshots
    pub after : ControlValue
    pub serves : ServesOneStream (streams_of words.grpc (accepts (string_bytes words.listen))) (new_control snapshots) after
    pub number : acknowledged ≡ after.served.acknowledged

  -- a proxy of this configuration and these facts ran its rounds; before them the update stream was down
  pub record IsProxied (words : ProxyWords) : Type 0 where
    pub c : ConfigValue
    pub facts : Facts
    pub configured : IsConfigured holds lacks words c facts
    pub after : ProxyValue
    pub link : Option Link
    pub rounds : Rounds (connects (string_bytes words.control)) (accepts (string_bytes words.listen)) facts words.rounds
        (new_proxy c) after None link

  module _ (out out_new errors errors_new : Option Text) (status : ℕ) where
    -- the end of a control plane: it prints the last acknowledged number, or the fault that stopped it
    pub data EndsControl (words : ControlWords) : Type 0 where
      served : (acknowledged : Option ℕ) → IsServed words acknowledged
          → Prints out out_new errors errors_new status 0 (acknowledged_line acknowledged) → EndsControl words
      stopped : (fault : JobFault) → StopsControl holds lacks words fault → LeavesFault out out_new errors errors_new status fault
          → EndsControl words
      memory : LeavesFault out out_new errors errors_new status faults.Memory → EndsControl words

    -- the end of a proxy: it prints nothing, or the fault that stopped it
    pub data EndsProxy (words : ProxyWords) : Type 0 where
      served : IsProxied words → status ≡ 0 → out_new ≡ out → errors_new ≡ errors → EndsProxy words
      stopped : (fault : JobFault) → StopsProxy holds lacks words fault → LeavesFault out out_new errors errors_new status fault
          → EndsProxy words
      memory : LeavesFault out out_new errors errors_new status faults.Memory → EndsProxy words
