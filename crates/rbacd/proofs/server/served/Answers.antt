-- By the server that ended.
use Rattle.std.proofs.Common.{refl}
use Rattle.rbacd.specs.Run.{EndsHost}
use Rattle.rbacd.proofs.server.served.Goals as goal

pub returns-in-None : goal.returns-in-None
returns-in-None g c = EndsHost.told (rw c.in-None.is at c.in-Ok.ensures) refl refl refl

pub returns-in-Some : goal.returns-in-Some
returns-in-Some g c = EndsHost.stopped _ (rw c.in-Some.is at c.in-Ok.ensures) c.end_by_host.ensures

pub returns-in-Err : goal.returns-in-Err
returns-in-Err g c = EndsHost.unbegun c.end_by_host-in-Err.ensures
