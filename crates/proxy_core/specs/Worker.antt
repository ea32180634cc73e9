-- What a worker does, which has one update stream and any number of connections, as one of them sees it (this
-- project's own).
use Rattle.std.specs.Prelude.{ℕ, ◌==◌, Option, Some, None, List, [], ◌∷◌, if◌then◌else◌}
use Rattle.proxy_core.specs.Events.{EventValue, ads_up, ads_bytes, ads_lost, http_open, http_bytes, http_closed}
use Rattle.proxy_core.specs.Step.{EventCall, answered, no_memory}

-- the event as the connection in place `k` sees it, which takes itself for that in place 0. It sees none if it is an event
-- of another connection
abbrev pub seen_at : ℕ → EventValue → Option EventValue
seen_at k ads_up = Some ads_up
seen_at k (ads_bytes bytes) = Some (ads_bytes bytes)
seen_at k ads_lost = Some ads_lost
seen_at k (http_open j facts) = if k == j then Some (http_open 0 facts) else None
seen_at k (http_bytes j bytes) = if k == j then Some (http_bytes 0 bytes) else None
seen_at k (http_closed j) = if k == j then Some (http_closed 0) else None

-- the call as it is seen there, in front of others
abbrev pub call_then : (EventValue → EventCall) → Option EventValue → List EventCall → List EventCall
call_then call None calls = calls
call_then call (Some event) calls = call event ∷ calls

-- the calls that the connection in place `k` sees, in order: those of the update stream and its own
abbrev pub calls_at : ℕ → List EventCall → List EventCall
calls_at k [] = []
calls_at k (answered event out ∷ calls) = call_then (λ e. answered e out) (seen_at k event) (calls_at k calls)
calls_at k (no_memory event ∷ calls) = call_then no_memory (seen_at k event) (calls_at k calls)
