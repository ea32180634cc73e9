use Rattle.std.proofs.Common.{Some, arith, sym}
use Rattle.serve_log.proofs.RecorderLemmas.{set_past}
use Rattle.serve_log.proofs.connection.put_into.Goals as goal

pub returns-then-place-len : goal.returns-then-place-len
returns-then-place-len c = sym (set_past c.args.connections.now.items c.args.place (Some c.args.connection) (omega arith))
