use Rattle.std.proofs.Common.{ℕ, ◌≡◌, ◌≢◌, ◌<◌, List, [], map, length, arith}
use Rattle.std.proofs.lemmas.Grind.{common_steps}
use Rattle.proto_wire.specs.Reading.{in_fields, in_values}
use Rattle.proto_wire.specs.Fields.{Wire, field_view}
use Rattle.proto_wire.specs.Merge.{parts_view}
use Rattle.proto_wire.specs.Messages.{IsMessage, MessageFault}
use Rattle.proto_wire.specs.Values.{payloads}
use Rattle.rbac_match.specs.Authenticated.{authenticated_field, authenticated_keys, AuthenticatedFault}
use Rattle.rbac_match.specs.Text.{TextFault}
use Rattle.rbac_match.proofs.Basics.{payloads_some}
use Rattle.rbac_match.proofs.Exits.{exit_memory_or, placed_fault}
use Rattle.rbac_match.proofs.authenticated.read_authenticated.Goals as goal

pub returns-in_err-fields-clause-fault : goal.returns-in_err-fields-clause-fault
returns-in_err-fields-clause-fault c =
    let parts : List (List ℕ) = parts_view c.args.parts.now in
    exit_memory_or (MessageFault authenticated_keys parts) (AuthenticatedFault parts)
    c.from_residual.result _ c.from_residual.ensures.1
    c.in_err-fields.ensures.fault (λ e bad. in_fields bad)

pub returns-in_err-inside_field-clause-fault : goal.returns-in_err-inside_field-clause-fault
returns-in_err-inside_field-clause-fault c =
    let parts : List (List ℕ) = parts_view c.args.parts.now in
    let fs : List Wire = map field_view c.in_ok-fields.fields.items in
    let message : IsMessage authenticated_keys parts fs = c.in_ok-fields.ensures.found in
    let given : parts_view c.deref-2.result.now ≡ payloads authenticated_field.principal_name fs =
    rw c.deref-2.ensures (rw c.deref.ensures at c.in_ok-name.ensures) in
    let more : 0 < length c.in_ok-name.name.items = grind (arith, common_steps) in
    let some : payloads authenticated_field.principal_name fs ≢ [] =
    payloads_some c.deref-2.result.now (payloads authenticated_field.principal_name fs) given (rw c.deref-2.ensures more) in
    exit_memory_or (TextFault (payloads authenticated_field.principal_name fs)) (AuthenticatedFault parts)
    c.from_residual-in_err-inside_field.result _ c.from_residual-in_err-inside_field.ensures.1
    (placed_fault (TextFault (payloads authenticated_field.principal_name fs))
    (TextFault (payloads authenticated_field.principal_name fs)) 2 0 c.read_text_matcher.result _ c.in_err-inside_field.ensures
    (rw given at c.read_text_matcher.ensures.fault) (λ e bad. bad)) (λ e bad. in_values fs message.0 (some, bad))
