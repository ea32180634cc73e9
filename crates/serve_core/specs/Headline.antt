-- The headline of a server: what is on the wire is what the core answers to what came in (this project's own).
use Rattle.std.specs.Prelude.{◌≡◌, ◌<◌, ℕ, List, ◌++◌}
use Rattle.ads.specs.Config.{ConfigValue}
use Rattle.proxy_core.specs.Headline.{Headline}
use Rattle.proxy_core.specs.Step.{EventCall, events_of, outputs_of}
use Rattle.proxy_core.specs.Worker.{calls_at}
use Rattle.serve_loop.specs.declared.stream.Stream.{Stream}
use Rattle.serve_loop.specs.History.{IsOrderly, answered_at, sent_at, waiting_at}
use Rattle.serve_loop.specs.Law.{wire_of}
use Rattle.rbac_serve.specs.Turns.{calls_of}
use Rattle.serve_core.specs.Turns.{ServerStep, ServerTurn, worker_turns}

-- the calls of the core that these turns are
abbrev pub core_calls : List ServerTurn → List EventCall
core_calls turns = calls_of (worker_turns turns)

-- the headline of a server with this configuration and so many places, of all that happened on its wire
pub record ServerHeadline (c : ConfigValue) (n : ℕ) (wire : List ServerStep) : Type 0 where
  -- the events on the wire were taken by the service in order, each once, and what was sent are its answers
  pub turns : List ServerTurn
  pub wire_is : wire ≡ wire_of turns
  -- a stream opens where none is open, and all else happens to an open one
  pub orderly : IsOrderly wire
  -- what was sent on a stream since it opened, and after it what waits, is what the core answered on it since then
  pub in_order : (s : Stream) → answered_at s turns ≡ sent_at s turns ++ waiting_at s turns
  -- the headline holds of each connection's events with those of the update stream, and of the core's answers to them
  pub each : (k : ℕ) → k < n
      → Headline c (events_of (calls_at k (core_calls turns))) (outputs_of (calls_at k (core_calls turns)))
