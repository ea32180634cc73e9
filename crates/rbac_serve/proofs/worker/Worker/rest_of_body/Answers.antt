use Rattle.std.proofs.Common.{◌≡◌, ◌∙◌, ℕ, Option, Some}
use Rattle.http_front.specs.Front.{FrontValue}
use Rattle.rbac_serve.specs.Tables.{body_at}
use Rattle.rbac_serve.proofs.PlaceLemmas.{session_at, some_there}
use Rattle.rbac_serve.proofs.worker.Worker.rest_of_body.Goals as goal

-- the connection is the one in the place
body_there : (o : Option FrontValue) (f : FrontValue) (n : ℕ) → o ≡ Some f → n ≡ body_at (Some f) → n ≡ body_at o
body_there o f n is found = rw is found

pub returns-in-Some-session : goal.returns-in-Some-session
returns-in-Some-session c =
    let gs = c.args.self.now.connections.items in
    let connection = c.in-Some.connection.now in
    let found = rw c.deref.ensures.value at c.in-Some.ensures.lookup in
    let there = some_there gs c.args.k connection connection found.3.0 (found.3.1 connection) in
    let is = session_at gs c.args.k connection there ∙ c.in-Some-session.is in
    body_there _ c.in-Some-session.session _ is c.rest_of_body.ensures
