use Rattle.ads.specs.Ends.{client_view}
use Rattle.proxy_core.proofs.Parts.{kept_reported}
use Rattle.proxy_core.proofs.session.Session.take.Goals as goal

pub returns-then-branch-clause-found : goal.returns-then-branch-clause-found
returns-then-branch-clause-found c =
    let (none, same) = rw c.if-branch.true at c.in_ok-kept_by.ensures.kept in
    rw (c.new.ensures.items, c.new-then-branch.ensures.items, same, ← c.self.view_is) (kept_reported (client_view c.args.client.now).accepted
    c.self.inside.front c.args.bytes.now c.self.invariant none)

pub returns-clause-found : goal.returns-clause-found
returns-clause-found c =
    let same = rw c.if-branch.false at c.in_ok-kept_by.ensures.kept in
    rw (← c.self.view_is) (rw (same, c.in-Some.is) at c.in_ok-answers.ensures.found)
