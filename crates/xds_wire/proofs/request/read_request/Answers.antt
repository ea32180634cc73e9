-- Each refusal of the message is a fault that is there.
use Rattle.std.proofs.Common.{List, [], ◌∷◌, map, inr}
use Rattle.proto_wire.specs.Fields.{Wire, field_view}
use Rattle.proto_wire.specs.Reading.{OptionalFault}
use Rattle.proto_wire.specs.Values.{StringFault}
use Rattle.xds_wire.specs.Envelope.{StringsFault}
use Rattle.xds_wire.specs.Discovery.{NodeFault, StatusFault, RequestFieldsFault, bad_request_version, bad_request_node, bad_request_names, bad_request_type, bad_request_nonce, bad_request_error, request_field}
use Rattle.xds_wire.proofs.ReadExits.{exit_field}
use Rattle.xds_wire.proofs.request.read_request.Goals as goal

pub returns-in_err-text_at-clause-fault : goal.returns-in_err-text_at-clause-fault
returns-in_err-text_at-clause-fault c =
    let exit = c.from_residual-in_err-text_at in
    let fs : List Wire = map field_view c.in_ok-fields.fields.items in
    exit_field (StringFault request_field.version_info fs) RequestFieldsFault (c.args.bytes.now ∷ []) fs c.in_ok-fields.ensures.found
    (λ d bad. bad_request_version bad) exit.result _ exit.ensures.1 (inr (rw (← c.deref.ensures) c.in_err-text_at.ensures.fault))

pub returns-in_err-merged_node-clause-fault : goal.returns-in_err-merged_node-clause-fault
returns-in_err-merged_node-clause-fault c =
    let exit = c.from_residual-in_err-merged_node in
    let fs : List Wire = map field_view c.in_ok-fields.fields.items in
    exit_field (OptionalFault NodeFault request_field.node fs) RequestFieldsFault (c.args.bytes.now ∷ []) fs c.in_ok-fields.ensures.found
    (λ d bad. bad_request_node bad) exit.result _ exit.ensures.1 (rw (← c.deref-2.ensures) c.in_err-merged_node.ensures.fault)

pub returns-in_err-repeated_text-clause-fault : goal.returns-in_err-repeated_text-clause-fault
returns-in_err-repeated_text-clause-fault c =
    let exit = c.from_residual-in_err-repeated_text in
    let fs : List Wire = map field_view c.in_ok-fields.fields.items in
    exit_field (StringsFault request_field.resource_names fs) RequestFieldsFault (c.args.bytes.now ∷ []) fs c.in_ok-fields.ensures.found
    (λ d bad. bad_request_names bad) exit.result _ exit.ensures.1 (rw (← c.deref-3.ensures) c.in_err-repeated_text.ensures.fault)

pub returns-in_err-text_at-2-clause-fault : goal.returns-in_err-text_at-2-clause-fault
returns-in_err-text_at-2-clause-fault c =
    let exit = c.from_residual-in_err-text_at-2 in
    let fs : List Wire = map field_view c.in_ok-fields.fields.items in
    exit_field (StringFault request_field.type_url fs) RequestFieldsFault (c.args.bytes.now ∷ []) fs c.in_ok-fields.ensures.found
    (λ d bad. bad_request_type bad) exit.result _ exit.ensures.1 (inr (rw (← c.deref-4.ensures) c.in_err-text_at-2.ensures.fault))

pub returns-in_err-text_at-3-clause-fault : goal.returns-in_err-text_at-3-clause-fault
returns-in_err-text_at-3-clause-fault c =
    let exit = c.from_residual-in_err-text_at-3 in
    let fs : List Wire = map field_view c.in_ok-fields.fields.items in
    exit_field (StringFault request_field.response_nonce fs) RequestFieldsFault (c.args.bytes.now ∷ []) fs c.in_ok-fields.ensures.found
    (λ d bad. bad_request_nonce bad) exit.result _ exit.ensures.1 (inr (rw (← c.deref-5.ensures) c.in_err-text_at-3.ensures.fault))

pub returns-in_err-merged_status-clause-fault : goal.returns-in_err-merged_status-clause-fault
returns-in_err-merged_status-clause-fault c =
    let exit = c.from_residual-in_err-merged_status in
    let fs : List Wire = map field_view c.in_ok-fields.fields.items in
    exit_field (OptionalFault StatusFault request_field.error_detail fs) RequestFieldsFault (c.args.bytes.now ∷ []) fs c.in_ok-fields.ensures.found
    (λ d bad. bad_request_error bad) exit.result _ exit.ensures.1 (rw (← c.deref-6.ensures) c.in_err-merged_status.ensures.fault)
