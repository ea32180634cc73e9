-- What a proxy's core has put out, and what it has accepted (this project's own).
use Rattle.std.specs.Prelude.{ℕ, List, [], Option, Some, None}
use Rattle.proxy_core.specs.Events.{output_view}
use Rattle.proxy_core.specs.Proxies.{proxy_view}
use Rattle.c_slots.specs.declared.proxy_slot.Core.{Core}

-- the last event's bytes for the update stream
abbrev pub ads_in : Option Core → List ℕ
ads_in None = []
ads_in (Some core) = (output_view core.output).ads

-- the last event's bytes for its connection
abbrev pub http_in : Option Core → List ℕ
http_in None = []
http_in (Some core) = (output_view core.output).http

-- how many responses were accepted
abbrev pub generation_in : Option Core → ℕ
generation_in None = 0
generation_in (Some core) = (proxy_view core.proxy).client.accepted.generation
