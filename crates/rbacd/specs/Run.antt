-- A run of the program: the end of a server, the end of any job, and what mistaken words lead to.
use Rattle.std.specs.Prelude.{◌≡◌, ◌⊎◌, ℕ, Bool, true, List, Option, None, Some, IsTrue, string_bytes}
use Rattle.std.specs.declared.io.Error.{Error as IoError}
use Rattle.clap.specs.Words.{Text, kind_of}
use Rattle.clap.specs.declared.error.Error.{Error}
use Rattle.ads.specs.Config.{ConfigValue}
use Rattle.attributes.specs.Conn.{Facts, conn_view}
use Rattle.stream_pumps.specs.Rounds.{Link}
use Rattle.command_line.specs.Words.{AreMistaken, IsJobOf}
use Rattle.command_line.specs.declared.words.Job.{Job}
use Rattle.command_line.specs.declared.words.Job.TheVariants.{Batch, Check, CheckConfig, Control, Judge, Proxy, Replay, Serve}
use Rattle.program_jobs.specs.declared.job_fault.JobFault.{JobFault}
use Rattle.program_jobs.specs.declared.job_fault.JobFault.TheVariants as faults
use Rattle.program_jobs.specs.ServerSettings.{IsSettingsText}
use Rattle.serve_config.specs.declared.config.ServeConfig.{ServeConfig}
use Rattle.serve_core.specs.MappedHeadline.{SettingsHeadline}
use Rattle.serve_core.specs.Turns.{ServerFacts, ServerStep}
use Rattle.serve_host.specs.Known.{HasKnownFacts}
use Rattle.serve_host.specs.declared.fault.HostFault.{HostFault}
use Rattle.serve_loop.specs.History.{is_told}
use Rattle.program_jobs.specs.Jobs.{ChecksTo, EndsBatch, EndsConfig, EndsControl, EndsProxy, EndsReplay, EndsReport, IsUnread, JudgesTo, LeavesFault, Prints}

module _ (holds : Text → Text → Type 0) (lacks : (Text × IoError) → Type 0) where
  -- the file at this path cannot be read, or is called bad settings of a server; that they are bad is not said
  abbrev pub LacksSettings : Text → JobFault → Type 0
  LacksSettings path fault = IsUnread holds lacks path fault ⊎ ((text : Text) × holds path text × (fault ≡ faults.Config))

-- a server could not begin, or could not go on: the status is 2, and standard output stays. Or memory ran out
abbrev pub EndsUnserved : Option Text → Option Text → Option Text → Option Text → ℕ → Type 0
EndsUnserved out out_new errors errors_new status = ((status ≡ 2) × (out_new ≡ out))
    ⊎ LeavesFault out out_new errors errors_new status faults.Memory

-- a server with this configuration, by these facts and these settings, ended, with this fault or by being told to. It ran on
-- a network that was opened by them. The headline holds of all that happened on the wire of that network, and each of its
-- connections has these facts beside its addresses
abbrev pub HasHosted : (ServerFacts → ServeConfig → List ServerStep → Type 0) → ConfigValue → ServerFacts → ServeConfig
    → Option HostFault → Type 0
HasHosted hosted c conn settings fault = (wire : List ServerStep) × hosted conn settings wire × SettingsHeadline c settings wire
    × ∥ HasKnownFacts (conn_view conn) wire ∥₁ × (fault ≡ None → is_told wire ≡ true)

module _ (hosted : ServerFacts → ServeConfig → List ServerStep → Type 0) (c : ConfigValue) (conn : ServerFacts)
    (settings : ServeConfig) (out out_new errors errors_new : Option Text) (status : ℕ) where
  -- the end of a server. It was told to end: the status is 0, and nothing is printed. Or it could not go on, or it could not
  -- begin
  pub data EndsHost : Type 0 where
    told : HasHosted hosted c conn settings None → status ≡ 0 → out_new ≡ out → errors_new ≡ errors → EndsHost
    stopped : (fault : HostFault) → HasHosted hosted c conn settings (Some fault)
        → EndsUnserved out out_new errors errors_new status → EndsHost
    unbegun : EndsUnserved out out_new errors errors_new status → EndsHost

module _ (holds : Text → Text → Type 0) (lacks : (Text × IoError) → Type 0)
    (hosted : ServerFacts → ServeConfig → List ServerStep → Type 0)
    (out out_new errors errors_new : Option Text) (status : ℕ) (path : Text) where
  -- the file at this path holds a text with these settings, and they are printed, if that is asked for. Otherwise a
  -- server ran by them, or could not. Or the fault is printed, or memory ran out
  pub data EndsServe (check : Bool) : Type 0 where
    meant : (text printed : Text) (c : ConfigValue) (facts : Facts) (settings : ServeConfig) → holds path text
        → IsSettingsText text c facts settings → IsTrue check → Prints out out_new errors errors_new status 0 printed
        → EndsServe check
    served : (text : Text) (c : ConfigValue) (conn : ServerFacts) (settings : ServeConfig) → holds path text
        → IsSettingsText text c (conn_view conn) settings → ¬ IsTrue check
        → EndsHost hosted c conn settings out out_new errors errors_new status → EndsServe check
    lacking : (fault : JobFault) → LacksSettings holds lacks path fault
        → LeavesFault out out_new errors errors_new status fault → EndsServe check
    memory : LeavesFault out out_new errors errors_new status faults.Memory → EndsServe check

module _ (holds : Text → Text → Type 0) (lacks : (Text × IoError) → Type 0)
    (connects accepts : Text → Option Link → Type 0) (hosted : ServerFacts → ServeConfig → List ServerStep → Type 0)
    (input : Option Text)
    (out out_new errors errors_new : Option Text) (status : ℕ) where
  -- the end of a job
  abbrev pub EndsJob : Job → Type 0
  EndsJob (Check words) = EndsReport out out_new errors errors_new status words.json (ChecksTo holds lacks words)
  EndsJob (Judge words) = EndsReport out out_new errors errors_new status words.json (JudgesTo holds lacks input words)
  EndsJob (Batch words) = EndsBatch holds lacks input out out_new errors errors_new status words
  EndsJob (CheckConfig config) =
      EndsConfig holds lacks out out_new errors errors_new status (string_bytes config)
  EndsJob (Replay words) =
      EndsReplay holds lacks out out_new errors errors_new status (string_bytes words.config) words.connection input
  EndsJob (Serve words) =
      EndsServe holds lacks hosted out out_new errors errors_new status (string_bytes words.config) words.check
  EndsJob (Control words) = EndsControl holds lacks connects accepts out out_new errors errors_new status words
  EndsJob (Proxy words) = EndsProxy holds lacks connects accepts out out_new errors errors_new status words

  -- the words name a job, which ends in this way; or they are mistaken; or memory ran out before that was known
  pub data Ran (words : List Text) : Type 0 where
    job : (job : Job) → IsJobOf words job → EndsJob job → Ran words
    mistaken : (error : Error) → AreMistaken words (kind_of error)
        → LeavesFault out out_new errors errors_new status (faults.Words error) → Ran words
    memory : LeavesFault out out_new errors errors_new status faults.Memory → Ran words
