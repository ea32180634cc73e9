-- By the parts of the address.
use Rattle.std.proofs.Common.{Some, ap, refl, ◌∙◌}
use Rattle.std.specs.declared.net.ip_addr.IpAddr.{IpAddr}
use Rattle.attributes.specs.Address.{unmapped}
use Rattle.serve_host.specs.Known.{number_of}
use Rattle.serve_host.proofs.facts.set_source.Goals as goal

pub returns : goal.returns
returns c = rw c.in-Some.is (
  (
    refl,
    ap Some c.port.ensures,
    ap Some (c.ip_of.ensures ∙ ap (λ (a : IpAddr). unmapped (number_of a)) c.ip.ensures),
  ),
  refl,
)

pub returns-in_default : goal.returns-in_default
returns-in_default c = rw c.in_default.is refl
