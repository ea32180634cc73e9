-- Each refusal of the message is a fault that is there.
use Rattle.std.proofs.Common.{List, [], ◌∷◌, map, inr}
use Rattle.proto_wire.specs.Fields.{Wire, field_view}
use Rattle.proto_wire.specs.Reading.{OptionalFault}
use Rattle.proto_wire.specs.Values.{StringFault}
use Rattle.xds_wire.specs.Discovery.{AnyFault, ExtensionFieldsFault, bad_extension_name, bad_extension_config, extension_field}
use Rattle.xds_wire.proofs.ReadExits.{exit_field}
use Rattle.xds_wire.proofs.extension.read_extension.Goals as goal

pub returns-in_err-text_at-clause-fault : goal.returns-in_err-text_at-clause-fault
returns-in_err-text_at-clause-fault c =
    let exit = c.from_residual-in_err-text_at in
    let fs : List Wire = map field_view c.in_ok-fields.fields.items in
    exit_field (StringFault extension_field.name fs) ExtensionFieldsFault (c.args.bytes.now ∷ []) fs c.in_ok-fields.ensures.found
    (λ d bad. bad_extension_name bad) exit.result _ exit.ensures.1 (inr (rw (← c.deref.ensures) c.in_err-text_at.ensures.fault))

pub returns-in_err-merged_any-clause-fault : goal.returns-in_err-merged_any-clause-fault
returns-in_err-merged_any-clause-fault c =
    let exit = c.from_residual-in_err-merged_any in
    let fs : List Wire = map field_view c.in_ok-fields.fields.items in
    exit_field (OptionalFault AnyFault extension_field.typed_config fs) ExtensionFieldsFault (c.args.bytes.now ∷ []) fs c.in_ok-fields.ensures.found
    (λ d bad. bad_extension_config bad) exit.result _ exit.ensures.1 (rw (← c.deref-2.ensures) c.in_err-merged_any.ensures.fault)
