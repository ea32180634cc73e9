-- The settings of a server: those of the members of a JSON object, or their defaults.
use Rattle.std.specs.Prelude.{◌≤◌, ℕ, List, [], ◌∷◌, IfSome, IsSome, IsSomeAnd, Option, codes}
use Rattle.serde_json.specs.Data.{Data}
use Rattle.serde_json.specs.Find.{get}
use Rattle.program_texts.specs.Members.{HasOnly}
use Rattle.serve_config.specs.Addresses.{AreAddresses, IsAdmin, IsControlText}
use Rattle.serve_config.specs.Calls.{IsCallFor}
use Rattle.serve_config.specs.Maps.{IsMappingBy, IsPathsBy}
use Rattle.serve_config.specs.Members.{IsFlag, IsNumberFrom, IsOrNull, IsPathText, member_of}
use Rattle.serve_config.specs.declared.config.AccessLog.{AccessLog}
use Rattle.serve_config.specs.declared.config.Record.{Record}
use Rattle.serve_config.specs.declared.config.ServeConfig.{ServeConfig}
use Rattle.serve_config.specs.declared.config.Timeouts.{Timeouts}

-- the names that settings may have
abbrev pub setting_names : List (List ℕ)
setting_names =
    codes "proxy" ∷ codes "facts" ∷ codes "listen" ∷ codes "control" ∷ codes "grpc" ∷ codes "admin" ∷ codes "connections" ∷ codes "pending"
    ∷ codes "timeouts" ∷ codes "backoff" ∷ codes "nack_pause" ∷ codes "silence" ∷ codes "stale_after" ∷ codes "access_log" ∷ codes "update_log"
    ∷ codes "record" ∷ codes "until_eof" ∷ codes "map" ∷ codes "require" ∷ codes "paths" ∷ []

-- the names that times may have
abbrev pub timeout_names : List (List ℕ)
timeout_names =
    codes "head" ∷ codes "idle" ∷ codes "write" ∷ codes "drain" ∷ codes "first_response" ∷ []

-- the names that waits may have
abbrev pub wait_names : List (List ℕ)
wait_names = codes "first" ∷ codes "greatest" ∷ []

-- the names that a log of decisions may have
abbrev pub access_log_names : List (List ℕ)
access_log_names = codes "path" ∷ codes "sample" ∷ []

-- the names that a record of events may have
abbrev pub record_names : List (List ℕ)
record_names = codes "path" ∷ codes "bytes" ∷ codes "files" ∷ []

-- a number of milliseconds, from 1 to the milliseconds of a day
abbrev pub IsTimeFrom : ℕ → Option Data → ℕ → Type 0
IsTimeFrom = IsNumberFrom 1 86400000

-- the times of an object, if it is present, each with its default
pub record AreTimeouts (d : Option Data) (times : Timeouts) : Type 0 where
  pub names : IfSome d (HasOnly timeout_names)
  pub head : IsTimeFrom 10000 (member_of (codes "head") d) times.head
  pub idle : IsTimeFrom 60000 (member_of (codes "idle") d) times.idle
  pub write : IsTimeFrom 10000 (member_of (codes "write") d) times.write
  pub drain : IsTimeFrom 10000 (member_of (codes "drain") d) times.drain
  pub first_response : IsTimeFrom 30000 (member_of (codes "first_response") d) times.first_response

-- the two waits of an object, if it is present, each with its default; the first is at most the greatest
pub record AreWaits (d : Option Data) (first greatest : ℕ) : Type 0 where
  pub names : IfSome d (HasOnly wait_names)
  pub least : IsNumberFrom 1 3600000 250 (member_of (codes "first") d) first
  pub most : IsNumberFrom 1 3600000 30000 (member_of (codes "greatest") d) greatest
  pub ordered : first ≤ greatest

-- the log of decisions that an object declares
pub record IsAccessLog (d : Data) (log : AccessLog) : Type 0 where
  pub names : HasOnly access_log_names d
  pub path : IsSomeAnd (get (codes "path") d) (λ p. IsPathText p log.path)
  pub sample : IsNumberFrom 1 1000000 1 (get (codes "sample") d) log.sample

-- the record of events that an object declares
pub record IsEventRecord (d : Data) (events : Record) : Type 0 where
  pub names : HasOnly record_names d
  pub path : IsSomeAnd (get (codes "path") d) (λ p. IsPathText p events.path)
  pub bytes : IsNumberFrom 65536 1099511627776 67108864 (get (codes "bytes") d) events.bytes
  pub files : IsNumberFrom 0 1000 4 (get (codes "files") d) events.files

-- the settings that an object declares, whose members have only names of settings
pub record AreSettings (d : Option Data) (c : ServeConfig) : Type 0 where
  pub names : IsSomeAnd d (HasOnly setting_names)
  pub proxy : IsSome (member_of (codes "proxy") d)
  pub listen : IsSomeAnd (member_of (codes "listen") d) (λ l. AreAddresses l c.listen.items)
  pub control : IsSomeAnd (member_of (codes "control") d) (λ a. IsControlText a c.control)
  pub grpc : IsCallFor c.control (member_of (codes "grpc") d) c.grpc
  pub admin : IsOrNull IsAdmin (member_of (codes "admin") d) c.admin
  pub connections : IsNumberFrom 1 100000 1024 (member_of (codes "connections") d) c.connections
  pub pending : IsNumberFrom 1 16777216 65536 (member_of (codes "pending") d) c.pending
  pub timeouts : AreTimeouts (member_of (codes "timeouts") d) c.timeouts
  pub waits : AreWaits (member_of (codes "backoff") d) c.first_backoff c.greatest_backoff
  pub nack_pause : IsNumberFrom 0 3600000 1000 (member_of (codes "nack_pause") d) c.nack_pause
  pub silence : IsNumberFrom 0 86400 0 (member_of (codes "silence") d) c.silence
  pub stale_after : IsNumberFrom 0 86400 0 (member_of (codes "stale_after") d) c.stale_after
  pub access_log : IsOrNull IsAccessLog (member_of (codes "access_log") d) c.access_log
  pub update_log : IsOrNull IsPathText (member_of (codes "update_log") d) c.update_log
  pub events : IsOrNull IsEventRecord (member_of (codes "record") d) c.record
  pub until_eof : IsFlag (member_of (codes "until_eof") d) c.until_eof
  pub mapping : IsMappingBy d c.mapping
  pub paths : IsPathsBy (member_of (codes "paths") d) c.paths
