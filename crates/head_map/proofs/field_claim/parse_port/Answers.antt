use Rattle.head_map.proofs.Ports.{no_plus, port_of}
use Rattle.std.proofs.Common.{◌≡◌, true}
use Rattle.head_map.proofs.field_claim.parse_port.Goals as goal

pub returns-then-has_plus : goal.returns-then-has_plus
returns-then-has_plus c = λ port. no_plus c.args.text.now port (rw c.as_bytes.ensures.value at (c.has_plus.ensures.0 c.if-has_plus.true))

pub returns : goal.returns
returns c =
    rw c.ok.ensures.value
    (port_of c.args.text.now c.parse.result c.parse.ensures.value.0
    (λ plus. let claim : c.has_plus.result ≡ true = c.has_plus.ensures.1 (rw c.as_bytes.ensures.value plus) in absurd cc))
