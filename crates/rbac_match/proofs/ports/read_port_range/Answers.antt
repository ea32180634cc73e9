-- Each refusal of a range of ports is a fault that is there.
use Rattle.std.proofs.Common.{ℕ, List, map}
use Rattle.proto_wire.specs.Reading.{in_fields, in_values}
use Rattle.proto_wire.specs.Fields.{Wire, field_view}
use Rattle.proto_wire.specs.Merge.{parts_view}
use Rattle.proto_wire.specs.Messages.{IsMessage, MessageFault}
use Rattle.rbac_match.specs.Message.{range_keys}
use Rattle.rbac_match.specs.Ports.{PortRangeFault}
use Rattle.rbac_match.proofs.PortsMessages.{bounds_disjoint}
use Rattle.rbac_match.proofs.Exits.{exit_memory_or, exit_new}
use Rattle.rbac_match.proofs.ports.read_port_range.Goals as goal

pub returns-in_err-fields-clause-fault : goal.returns-in_err-fields-clause-fault
returns-in_err-fields-clause-fault c =
    let parts : List (List ℕ) = parts_view c.args.parts.now in
    exit_memory_or (MessageFault range_keys parts) (PortRangeFault parts) c.from_residual.result _
    c.from_residual.ensures.1 c.in_err-fields.ensures.fault
    (λ e bad. in_fields bad)

pub returns-in_err-port_range-clause-fault : goal.returns-in_err-port_range-clause-fault
returns-in_err-port_range-clause-fault c =
    let parts : List (List ℕ) = parts_view c.args.parts.now in
    let fs : List Wire = map field_view c.in_ok-fields.fields.items in
    let message : IsMessage range_keys parts fs = c.in_ok-fields.ensures.found in
    let bad = rw c.deref.ensures at c.in_err-port_range.ensures.fault in
    exit_new (PortRangeFault parts) c.from_residual-in_err-port_range.result _
    c.from_residual-in_err-port_range.ensures.1
    (in_values fs message.0 ((λ span are. bounds_disjoint fs span are bad.0), bad.1))
