-- The headline of a server after front proxies, and of a server by its settings (this project's own).
use Rattle.std.specs.Prelude.{◌≡◌, ◌<◌, ℕ, List, ◌++◌, Option, Some, None}
use Rattle.ads.specs.Config.{ConfigValue}
use Rattle.proxy_core.specs.Headline.{Headline}
use Rattle.proxy_core.specs.Step.{events_of, outputs_of}
use Rattle.proxy_core.specs.Worker.{calls_at}
use Rattle.serve_config.specs.declared.config.ServeConfig.{ServeConfig}
use Rattle.serve_loop.specs.declared.stream.Stream.{Stream}
use Rattle.serve_loop.specs.History.{IsOrderly, answered_at, sent_at, waiting_at}
use Rattle.serve_loop.specs.Law.{ArePlaced, wire_of}
use Rattle.serve_core.specs.ClientRequests.{RuleValue}
use Rattle.serve_core.specs.Fronts.{FrontsRun, FrontsValue}
use Rattle.serve_core.specs.Headline.{ServerHeadline, core_calls}
use Rattle.serve_core.specs.Setups.{IsSetupBy, SetupValue}
use Rattle.serve_core.specs.Turns.{ServerStep, ServerTurn}

-- the headline of a server by this rule, with this configuration and so many places, of all that happened on its wire
pub record MappedHeadline (rule : RuleValue) (c : ConfigValue) (n : ℕ) (wire : List ServerStep) : Type 0 where
  -- the events on the wire were taken by the service in order, each once
  pub turns : List ServerTurn
  pub wire_is : wire ≡ wire_of turns
  -- a stream opens where none is open, and all else happens to an open one
  pub orderly : IsOrderly wire
  -- what was sent on a stream since it opened, and after it what waits, is what was answered on it since then
  pub in_order : (s : Stream) → answered_at s turns ≡ sent_at s turns ++ waiting_at s turns
  -- what is answered on a connection are the answers to the asks in its bytes. For each, that is the core's answer to the
  -- request of the client that the rule gives. If the rule gives none, it is the answer to a request that is not judged
  pub fronts : FrontsValue
  pub run : FrontsRun rule turns fronts
  -- the headline holds of the events of each place of the core, with those of the update stream, and of the core's answers
  -- to them. The events of a place are those of the clients' connections
  pub each : (k : ℕ) → k < n → Headline c (events_of (calls_at k (core_calls fronts.core.turns)))
      (outputs_of (calls_at k (core_calls fronts.core.turns)))

-- the headline of a server by this rule, or by none
abbrev pub HeadlineBy : Option RuleValue → ConfigValue → ℕ → List ServerStep → Type 0
HeadlineBy None c n wire = ServerHeadline c n wire
HeadlineBy (Some rule) c n wire = MappedHeadline rule c n wire

-- the headline of a server with this setup
abbrev pub ServedHeadline : SetupValue → List ServerStep → Type 0
ServedHeadline setup wire = HeadlineBy setup.rule setup.config setup.places wire

-- the headline of a server with this configuration and these settings
pub record SettingsHeadline (c : ConfigValue) (settings : ServeConfig) (wire : List ServerStep) : Type 0 where
  pub setup : SetupValue
  pub set_up : IsSetupBy c settings setup
  pub headline : ∥ ServedHeadline setup wire ∥₁
  -- no connection is accepted in a place above those of the settings
  pub placed : ∥ ArePlaced setup.places wire ∥₁
