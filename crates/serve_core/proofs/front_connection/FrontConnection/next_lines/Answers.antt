-- As the front tells them.
use Rattle.serve_core.proofs.Clients.{told_none, told_some}
use Rattle.serve_core.proofs.front_connection.FrontConnection.next_lines.Goals as goal

pub returns-in-Some : goal.returns-in-Some
returns-in-Some c = told_some c.args.self.now.front _ (rw c.in-Some.is at c.in_ok-found.ensures)

pub returns-in-None : goal.returns-in-None
returns-in-None c = told_none c.args.self.now.front _ (rw c.in-None.is at c.in_ok-found.ensures)
