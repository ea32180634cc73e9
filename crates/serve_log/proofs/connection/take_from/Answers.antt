use Rattle.std.proofs.Common.{None, arith, sym}
use Rattle.serve_log.proofs.RecorderLemmas.{place_past, set_past}
use Rattle.serve_log.proofs.connection.take_from.Goals as goal

pub returns-then-place-len-clause-found : goal.returns-then-place-len-clause-found
returns-then-place-len-clause-found c = sym (place_past c.args.connections.now.items c.args.place (omega arith))

pub returns-then-place-len-clause-taken : goal.returns-then-place-len-clause-taken
returns-then-place-len-clause-taken c = sym (set_past c.args.connections.now.items c.args.place None (omega arith))
