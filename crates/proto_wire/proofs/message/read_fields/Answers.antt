use Rattle.std.proofs.Common.{◌≡◌, List, ◌++◌, map, ap, ◌∙◌}
use Rattle.proto_wire.specs.Fields.{field_view}
use Rattle.proto_wire.specs.declared.field.Field.{Field}
use Rattle.proto_wire.proofs.Exits.{exit_only_memory}
use Rattle.proto_wire.proofs.Unique.{BytesFault, fields_unique, fields_disjoint}
use Rattle.proto_wire.proofs.message.read_fields.Goals as goal

pub returns-in_err-append_fields-clause-reads : goal.returns-in_err-append_fields-clause-reads
returns-in_err-append_fields-clause-reads c fs fields =
    let exit = c.from_residual in
    let bytes = c.args.bytes.now in
    exit_only_memory (BytesFault bytes) (λ v. map field_view v.items ≡ fs) exit.result _
    exit.ensures.1 c.in_err-append_fields.ensures.fault
    (λ bad. fields_disjoint bytes fs bad.0.0 bad.0.1 fields bad.0.2)

pub returns-clause-reads : goal.returns-clause-reads
returns-clause-reads c fs fields =
    let found = c.in_ok-append_fields.ensures.found in
    found.2 ∙ ap (λ (xs : List Field). map field_view xs ++ found.0) c.new-fields.ensures.items
    ∙ fields_unique c.args.bytes.now found.0 fs found.1 fields
