use Rattle.std.proofs.Common.{◌≡◌, None, Some, refl}
use Rattle.check_request.proofs.socket.read_ip.Goals as goal

pub returns-in-Some-clause-found : goal.returns-in-Some-clause-found
returns-in-Some-clause-found c = (c.in-Some.ip, (c.in-Some.ensures c.in-Some.ip).0 refl, c.unmapped.ensures)

pub returns-in-None-clause-fault : goal.returns-in-None-clause-fault
returns-in-None-clause-fault c = (
  refl,
  refl,
  λ ip is.
      let same : None ≡ Some ip = (c.in-None.ensures ip).1 is in
      cc same,
)
