use Rattle.std.proofs.Common.{List, map}
use Rattle.proto_wire.specs.Fields.{Wire, field_view}
use Rattle.proto_wire.specs.Merge.{parts_view}
use Rattle.proto_wire.specs.Values.{StringFault}
use Rattle.xds_wire.specs.Discovery.{status_field, AreStatusFields}
use Rattle.xds_wire.specs.View.{status_view}
use Rattle.xds_wire.proofs.ReadExits.{last_found, last_fault}
use Rattle.xds_wire.proofs.status.read_status.Goals as goal

pub returns-clause-found : goal.returns-clause-found
returns-clause-found c =
    let parts = parts_view c.args.parts.now in
    let fs : List Wire = map field_view c.in_ok-fields.fields.items in
    last_found AreStatusFields status_view parts fs c.status_of.result c.in_ok-fields.ensures.found
    (rw (← c.deref.ensures) c.status_of.ensures.found)

pub returns-clause-fault : goal.returns-clause-fault
returns-clause-fault c =
    let parts = parts_view c.args.parts.now in
    let fs : List Wire = map field_view c.in_ok-fields.fields.items in
    last_fault (StringFault status_field.message) parts fs c.status_of.result c.in_ok-fields.ensures.found
    (rw (← c.deref.ensures) c.status_of.ensures.fault)
