-- The chunks so far were given to the core, and its answers were written.
use Rattle.std.proofs.Common.{◌≡◌, ◌∷◌, List, ℕ, map}
use Rattle.std.specs.Io.KnownBytes.{Consumes}
use Rattle.std.specs.List.{AllByRecursion}
use Rattle.attributes.specs.Conn.{conn_view}
use Rattle.proxy_core.specs.Events.{http_bytes, http_open}
use Rattle.proxy_core.specs.Proxies.{proxy_view}
use Rattle.proxy_core.specs.Step.{CallsDo, EventCall, event_of}
use Rattle.stream_pumps.specs.Pumps.{StaysOpen, http_of, joined}
use Rattle.stream_pumps.proofs.PumpLemmas.{WrittenWhole}
use Rattle.stream_pumps.proofs.pumps.receive_connection.Given as goal

abbrev pub invariant-loop : goal.invariant-loop
invariant-loop g l = (chunks : List (List ℕ)) × (calls : List EventCall)
    × CallsDo (proxy_view l.fn.proxy) calls (proxy_view l.proxy)
    × (map event_of calls ≡ http_open 0 (conn_view l.fn.conn) ∷ map (http_bytes 0) chunks)
    × AllByRecursion StaysOpen calls
    × Consumes (g.R.Read.remaining l.fn.reader) (g.R.Read.remaining l.reader) (joined chunks)
    × WrittenWhole (g.W.Write.contents l.fn.writer) (g.W.Write.contents l.writer) (map http_of calls)
