use Rattle.std.proofs.Common.{◌≡◌, ◌≢◌, ℕ, List, [], map}
use Rattle.proto_wire.specs.Reading.{in_fields, lacking, in_values}
use Rattle.proto_wire.specs.Fields.{Wire, field_view}
use Rattle.proto_wire.specs.Merge.{parts_view}
use Rattle.proto_wire.specs.Messages.{IsMessage, MessageFault}
use Rattle.proto_wire.specs.Values.{payloads}
use Rattle.proto_wire.specs.declared.refusal.Refusal.TheVariants.{Missing}
use Rattle.rbac_match.specs.Path.{path_field, path_keys, PathFault}
use Rattle.rbac_match.specs.Text.{TextFault}
use Rattle.rbac_match.proofs.Exits.{exit_memory_or, exit_known, at_found, at_fault, placed_fault}
use Rattle.rbac_match.proofs.path.read_path_matcher.Goals as goal

pub returns-in_err-fields-clause-fault : goal.returns-in_err-fields-clause-fault
returns-in_err-fields-clause-fault c =
    let parts : List (List ℕ) = parts_view c.args.parts.now in
    exit_memory_or (MessageFault path_keys parts) (PathFault parts) c.from_residual.result _
    c.from_residual.ensures.1 c.in_err-fields.ensures.fault
    (λ e bad. in_fields bad)

pub returns-in_err-at_field-clause-fault : goal.returns-in_err-at_field-clause-fault
returns-in_err-at_field-clause-fault c =
    let parts : List (List ℕ) = parts_view c.args.parts.now in
    let fs : List Wire = map field_view c.in_ok-fields.fields.items in
    let message : IsMessage path_keys parts fs = c.in_ok-fields.ensures.found in
    let fault = at_fault (λ e. (payloads path_field.path fs ≡ []) × (e ≡ Missing)) c.require_payload.result _
    c.in_err-at_field.ensures.same (rw c.deref.ensures at c.require_payload.ensures.fault) in
    exit_known (PathFault parts) c.from_residual-in_err-at_field.result _
    c.from_residual-in_err-at_field.ensures.1 (lacking fs message fault.0 fault.1)

pub returns-clause-fault : goal.returns-clause-fault
returns-clause-fault c =
    let parts : List (List ℕ) = parts_view c.args.parts.now in
    let fs : List Wire = map field_view c.in_ok-fields.fields.items in
    let message : IsMessage path_keys parts fs = c.in_ok-fields.ensures.found in
    let some : payloads path_field.path fs ≢ [] = at_found (λ _. payloads path_field.path fs ≢ []) c.require_payload.result _
    c.in_ok-at_field.ensures.same (rw c.deref.ensures at c.require_payload.ensures.found) in
    placed_fault (TextFault (payloads path_field.path fs)) (PathFault parts) 1 0 c.read_text_matcher.result c.inside_field.result
    c.inside_field.ensures
    (rw (c.deref-3.ensures, c.in_ok-path.ensures, c.deref-2.ensures) at c.read_text_matcher.ensures.fault)
    (λ e bad. in_values fs message.0 (some, bad))
