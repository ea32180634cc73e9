use Rattle.std.proofs.Common.{◌≡◌, ◌∙◌, Option, Some}
use Rattle.http_front.specs.Front.{FrontValue}
use Rattle.rbac_serve.specs.Tables.{IsFresh}
use Rattle.rbac_serve.proofs.PlaceLemmas.{session_at, some_there}
use Rattle.rbac_serve.proofs.worker.Worker.is_fresh.Goals as goal

-- the connection is the one in the place
fresh_there : (o : Option FrontValue) (f : FrontValue) → o ≡ Some f → IsFresh (Some f) → IsFresh o
fresh_there o f is fresh = rw is fresh

fresh_here : (o : Option FrontValue) (f : FrontValue) → o ≡ Some f → IsFresh o → IsFresh (Some f)
fresh_here o f is fresh = rw is at fresh

pub returns-in-Some-session : goal.returns-in-Some-session
returns-in-Some-session c =
    let gs = c.args.self.now.connections.items in
    let connection = c.in-Some.connection.now in
    let found = rw c.deref.ensures.value at c.in-Some.ensures.lookup in
    let there = some_there gs c.args.k connection connection found.3.0 (found.3.1 connection) in
    let is = session_at gs c.args.k connection there ∙ c.in-Some-session.is in (
      λ so. fresh_there _ c.in-Some-session.session is (c.is_fresh.ensures.0 so),
      λ fresh. c.is_fresh.ensures.1 (fresh_here _ c.in-Some-session.session is fresh),
    )
