-- Events and outputs of the core (this project's own). Events are those of an update stream (xDS REST and gRPC
-- protocol, state of the world) and of the connections of a server (RFC 9112).
use Rattle.std.specs.Prelude.{ℕ, Bool, false, List, []}
use Rattle.attributes.specs.Conn.{Facts, conn_view}
use Rattle.proxy_core.specs.declared.event.Event.{Event}
use Rattle.proxy_core.specs.declared.event.Event.TheVariants as event
use Rattle.proxy_core.specs.declared.event.Output.{Output}

-- an event of the update stream, or of the connection with this number
pub data EventValue : Type 0 where
  ads_up : EventValue
  ads_bytes : List ℕ → EventValue
  ads_lost : EventValue
  http_open : ℕ → Facts → EventValue
  http_bytes : ℕ → List ℕ → EventValue
  http_closed : ℕ → EventValue

-- the output of an event: bytes for the update stream, and whether the stream is closed. Also bytes for the event's own
-- connection, and whether that is closed
pub record OutputValue : Type 0 where
  pub ads : List ℕ
  pub ads_close : Bool
  pub http : List ℕ
  pub http_close : Bool

-- the output that sends and closes nothing
abbrev pub no_output : OutputValue
no_output = record { ads = []; ads_close = false; http = []; http_close = false }

-- the output that only sends bytes on the update stream, and may close it
abbrev pub ads_output : List ℕ → Bool → OutputValue
ads_output bytes close = record { ads = bytes; ads_close = close; http = []; http_close = false }

-- the output that only sends bytes on the event's connection, and may close it
abbrev pub http_output : List ℕ → Bool → OutputValue
http_output bytes close = record { ads = []; ads_close = false; http = bytes; http_close = close }

-- the event that an `Event` means
abbrev pub event_view : Event → EventValue
event_view event.AdsUp = ads_up
event_view (event.AdsBytes bytes) = ads_bytes bytes.now
event_view event.AdsLost = ads_lost
event_view (event.HttpOpen k conn) = http_open k (conn_view conn.now)
event_view (event.HttpBytes k bytes) = http_bytes k bytes.now
event_view (event.HttpClosed k) = http_closed k

-- the output that an `Output` means
abbrev pub output_view : Output → OutputValue
output_view o =
    record { ads = o.ads.items; ads_close = o.ads_close; http = o.http.items; http_close = o.http_close }
