-- Each refusal of the message is a fault that is there.
use Rattle.std.proofs.Common.{List, [], ◌∷◌, map, inr}
use Rattle.proto_wire.specs.Fields.{Wire, field_view}
use Rattle.proto_wire.specs.Values.{StringFault}
use Rattle.xds_wire.specs.Envelope.{RepeatedFault}
use Rattle.xds_wire.specs.Discovery.{AnyFault, ResponseFieldsFault, bad_response_version, bad_response_resource, bad_response_type, bad_response_nonce, response_field}
use Rattle.xds_wire.proofs.ReadExits.{exit_field}
use Rattle.xds_wire.proofs.response.read_response.Goals as goal

pub returns-in_err-text_at-clause-fault : goal.returns-in_err-text_at-clause-fault
returns-in_err-text_at-clause-fault c =
    let exit = c.from_residual-in_err-text_at in
    let fs : List Wire = map field_view c.in_ok-fields.fields.items in
    exit_field (StringFault response_field.version_info fs) ResponseFieldsFault (c.args.bytes.now ∷ []) fs c.in_ok-fields.ensures.found
    (λ d bad. bad_response_version bad) exit.result _ exit.ensures.1 (inr (rw (← c.deref.ensures) c.in_err-text_at.ensures.fault))

pub returns-in_err-repeated_any-clause-fault : goal.returns-in_err-repeated_any-clause-fault
returns-in_err-repeated_any-clause-fault c =
    let exit = c.from_residual-in_err-repeated_any in
    let fs : List Wire = map field_view c.in_ok-fields.fields.items in
    exit_field (RepeatedFault AnyFault response_field.resources fs) ResponseFieldsFault (c.args.bytes.now ∷ []) fs c.in_ok-fields.ensures.found
    (λ d bad. bad_response_resource bad) exit.result _ exit.ensures.1 (rw (← c.deref-2.ensures) c.in_err-repeated_any.ensures.fault)

pub returns-in_err-text_at-2-clause-fault : goal.returns-in_err-text_at-2-clause-fault
returns-in_err-text_at-2-clause-fault c =
    let exit = c.from_residual-in_err-text_at-2 in
    let fs : List Wire = map field_view c.in_ok-fields.fields.items in
    exit_field (StringFault response_field.type_url fs) ResponseFieldsFault (c.args.bytes.now ∷ []) fs c.in_ok-fields.ensures.found
    (λ d bad. bad_response_type bad) exit.result _ exit.ensures.1 (inr (rw (← c.deref-3.ensures) c.in_err-text_at-2.ensures.fault))

pub returns-in_err-text_at-3-clause-fault : goal.returns-in_err-text_at-3-clause-fault
returns-in_err-text_at-3-clause-fault c =
    let exit = c.from_residual-in_err-text_at-3 in
    let fs : List Wire = map field_view c.in_ok-fields.fields.items in
    exit_field (StringFault response_field.nonce fs) ResponseFieldsFault (c.args.bytes.now ∷ []) fs c.in_ok-fields.ensures.found
    (λ d bad. bad_response_nonce bad) exit.result _ exit.ensures.1 (inr (rw (← c.deref-4.ensures) c.in_err-text_at-3.ensures.fault))
