-- What a server is set up with (this project's own).
use Rattle.std.specs.Prelude.{◌≡◌, ℕ, Option, Some, None, length}
use Rattle.ads.specs.Config.{ConfigValue}
use Rattle.head_map.specs.Mapped.{MappingValue, mapping_view}
use Rattle.rbac_serve.specs.Tables.{WorkerValue}
use Rattle.serve_config.specs.declared.config.Paths.{Paths}
use Rattle.serve_config.specs.declared.config.ServeConfig.{ServeConfig}
use Rattle.serve_core.specs.ClientRequests.{RuleValue}
use Rattle.serve_core.specs.Rules.{JudgesAsSent}

-- what a server is set up with: its configuration, for how many connections it has places, and the rule for the requests of
-- fronts. It has none if each request is judged as it was sent
pub record SetupValue : Type 0 where
  pub config : ConfigValue
  pub places : ℕ
  pub rule : Option RuleValue

-- the setup of a server with this worker and this rule
abbrev pub setup_of : WorkerValue → Option RuleValue → SetupValue
setup_of w rule = record { config = w.core.client.config; places = length w.core.conns; rule = rule }

-- the rule of a mapping and of the paths that are judged: none if each request is judged as it was sent
abbrev pub IsRuleBy : MappingValue → Paths → Option RuleValue → Type 0
IsRuleBy m paths None = JudgesAsSent m paths
IsRuleBy m paths (Some rule) = (rule ≡ record { mapping = m; paths = paths }) × ¬ JudgesAsSent m paths

-- the setup of a server with this configuration and these settings
pub record IsSetupBy (c : ConfigValue) (settings : ServeConfig) (setup : SetupValue) : Type 0 where
  pub config : setup.config ≡ c
  pub places : setup.places ≡ settings.connections
  pub rule : IsRuleBy (mapping_view settings.mapping) settings.paths setup.rule
