-- So many rounds were run.
use Rattle.std.proofs.Common.{None, option_map}
use Rattle.attributes.specs.Conn.{conn_view}
use Rattle.proxy_core.specs.Proxies.{proxy_view}
use Rattle.stream_pumps.specs.Rounds.{Rounds}
use Rattle.stream_pumps.proofs.rounds.serve_rounds.Given as goal

abbrev pub invariant-loop : goal.invariant-loop
invariant-loop g l = Rounds (g.S.Streams.connects l.streams) (g.S.Streams.accepts l.streams) (conn_view l.fn.conn)
    l.counter (proxy_view l.fn.proxy) (proxy_view l.proxy) None
    (option_map (λ ends. (g.S.Reader.Read.remaining ends.0, g.S.Writer.Write.contents ends.1)) l.link)
