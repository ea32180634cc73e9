use Rattle.proxy_replay.proofs.lines.require_members.Goals as goal

pub returns-in-HttpClosed-clause-found : goal.returns-in-HttpClosed-clause-found
returns-in-HttpClosed-clause-found c = rw c.in-HttpClosed.is c.require_names-in-HttpClosed.ensures.found

pub returns-in-HttpClosed-clause-fault : goal.returns-in-HttpClosed-clause-fault
returns-in-HttpClosed-clause-fault c = rw c.in-HttpClosed.is c.require_names-in-HttpClosed.ensures.fault
