-- Each event by itself.
use Rattle.std.proofs.Common.{◌≡◌, refl}
use Rattle.serve_loop.specs.declared.stream.Stream.TheVariants.{Place, Updates}
use Rattle.serve_core.proofs.fronts.Fronts.happen.Goals as goal

pub pass-requires-clause-own : goal.pass-requires-clause-own
pass-requires-clause-own c =
    let arm = c.in-Received-Updates-default in
    let updates : arm.field-0 ≡ Updates = rw arm.is at arm.field-0-is in
    rw (arm.is, updates) tt

pub returns-in-Accepted-clause-found : goal.returns-in-Accepted-clause-found
returns-in-Accepted-clause-found c = rw c.in-Accepted.is c.accept.ensures.found

pub returns-in-Received-Place-default-clause-found : goal.returns-in-Received-Place-default-clause-found
returns-in-Received-Place-default-clause-found c =
    let arm = c.in-Received-Place-default in
    let place : arm.field-0 ≡ Place arm.k = rw arm.is at arm.field-0-is in
    rw (arm.is, place) c.receive.ensures.found

pub returns-in-Closed-Place-default-clause-found : goal.returns-in-Closed-Place-default-clause-found
returns-in-Closed-Place-default-clause-found c =
    let arm = c.in-Closed-Place-default in
    let place : arm.field-0 ≡ Place arm.k = rw arm.is at arm.field-0-is in
    rw (arm.is, place, c.put-closed.ensures.after) (c.requires.none, refl)
