-- The lines are told before the ask is taken.
use Rattle.serve_core.proofs.Clients.{ask_lines}
use Rattle.serve_core.proofs.front_connection.FrontConnection.next_ask.Goals as goal
use Rattle.std.proofs.Common.{refl}

pub returns-in-Some-clause-lines : goal.returns-in-Some-clause-lines
returns-in-Some-clause-lines c =
    let front = c.args.self.now.front in
    let (found, told, these) = c.in_ok-lines.ensures in
    let takes = rw c.in-Some.is at c.in_ok-found.ensures.found in
    ask_lines front.kept _ front c.in-Some.ask found _ refl told takes.0 these
