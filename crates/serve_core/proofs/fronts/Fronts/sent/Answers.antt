-- By the connection, or by the core.
use Rattle.std.proofs.Common.{refl}
use Rattle.serve_core.proofs.fronts.Fronts.sent.Goals as goal

pub returns-in-Place-clause-found : goal.returns-in-Place-clause-found
returns-in-Place-clause-found c = rw c.in-Place.is c.sent_at.ensures.found

pub returns-in-Updates-clause-found : goal.returns-in-Updates-clause-found
returns-in-Updates-clause-found c = rw c.in-Updates.is (refl, c.give.ensures, refl)
