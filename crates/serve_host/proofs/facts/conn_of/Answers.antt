-- First the one end, then the other.
use Rattle.std.proofs.Common.{subst}
use Rattle.attributes.specs.Conn.{Facts, conn_view}
use Rattle.serve_host.specs.Known.{IsSource}
use Rattle.serve_host.proofs.facts.conn_of.Goals as goal

pub returns : goal.returns
returns c = (
  conn_view c.set_source.new.conn,
  subst (λ (v : Facts). IsSource c.args.accepted.now.peer v (conn_view c.set_source.new.conn)) c.in_ok-conn.ensures.same
      c.in_ok-set_source.ensures,
  c.in_ok-set_destination.ensures,
)
