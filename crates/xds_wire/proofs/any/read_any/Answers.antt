use Rattle.std.proofs.Common.{List, map}
use Rattle.proto_wire.specs.Fields.{Wire, field_view}
use Rattle.proto_wire.specs.Merge.{parts_view}
use Rattle.proto_wire.specs.Values.{StringFault}
use Rattle.xds_wire.specs.Discovery.{any_field, AreAnyFields}
use Rattle.xds_wire.specs.View.{any_view}
use Rattle.xds_wire.proofs.ReadExits.{last_found, last_fault}
use Rattle.xds_wire.proofs.any.read_any.Goals as goal

pub returns-clause-found : goal.returns-clause-found
returns-clause-found c =
    let parts = parts_view c.args.parts.now in
    let fs : List Wire = map field_view c.in_ok-fields.fields.items in
    last_found AreAnyFields any_view parts fs c.any_of.result c.in_ok-fields.ensures.found
    (rw (← c.deref.ensures) c.any_of.ensures.found)

pub returns-clause-fault : goal.returns-clause-fault
returns-clause-fault c =
    let parts = parts_view c.args.parts.now in
    let fs : List Wire = map field_view c.in_ok-fields.fields.items in
    last_fault (StringFault any_field.type_url) parts fs c.any_of.result c.in_ok-fields.ensures.found
    (rw (← c.deref.ensures) c.any_of.ensures.fault)
