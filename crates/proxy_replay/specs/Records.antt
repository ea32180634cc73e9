-- The replay of a record (this project's own; docs/OPERATING.md, "A replay").
use Rattle.std.specs.Prelude.{◌≡◌, ℕ, List, Option, map}
use Rattle.std.specs.Io.KnownBytes.{Appends}
use Rattle.ads.specs.Config.{ConfigValue}
use Rattle.proxy_core.specs.Events.{EventValue}
use Rattle.proxy_core.specs.Step.{CallsDo, EventCall, ProxyValue, event_of, new_proxy}
use Rattle.proxy_replay.specs.Replays.{printed_of}

-- a proxy of this configuration took these events, in order, and its answers were printed
pub record AnswersEvents (config : ConfigValue) (events : List EventValue) (out out_new : Option (List ℕ)) : Type 0 where
  pub calls : List EventCall
  pub after : ProxyValue
  pub taken : map event_of calls ≡ events
  pub done : CallsDo (new_proxy config) calls after
  pub printed : Appends out out_new (printed_of calls)
