use Rattle.std.proofs.Common.{ℕ, List, map, refl}
use Rattle.proto_wire.specs.Fields.{Wire, field_view}
use Rattle.proto_wire.specs.Merge.{parts_view}
use Rattle.proto_wire.specs.Messages.{IsMessage, MessageFault}
use Rattle.proto_wire.proofs.PlaceExits.{exit_new_or}
use Rattle.cel_tree.specs.Message.{CheckedFault, checked_keys}
use Rattle.proto_wire.specs.Reading as reading
use Rattle.cel_tree.proofs.PlacedExits.{exit_unplaced_or, last_placed, without_place}
use Rattle.cel_read.specs.Places.{CheckedFaultAt, CheckedWrongAt, in_fields, of_fields}
use Rattle.cel_read.proofs.PlaceLaws.{checked_fails}
use Rattle.cel_read.proofs.message.read_checked_at.Goals as goal

pub returns-in_err-fields-clause-fault : goal.returns-in_err-fields-clause-fault
returns-in_err-fields-clause-fault c =
    let parts : List (List ℕ) = parts_view c.args.parts.now in
    exit_new_or (MessageFault checked_keys parts) (CheckedFault parts) c.from_residual.result _ c.from_residual.ensures.1
    c.in_err-fields.ensures.fault (λ d bad. reading.in_fields bad)

pub returns-in_err-fields-clause-place : goal.returns-in_err-fields-clause-place
returns-in_err-fields-clause-place c =
    let parts : List (List ℕ) = parts_view c.args.parts.now in
    exit_unplaced_or (MessageFault checked_keys parts) (CheckedFaultAt parts) c.from_residual.result _
    c.from_residual.ensures.1 c.in_err-fields.ensures.fault (λ d bad. of_fields bad refl)

pub returns-clause-fault : goal.returns-clause-fault
returns-clause-fault c =
    let parts : List (List ℕ) = parts_view c.args.parts.now in
    let fs : List Wire = map field_view c.in_ok-fields.fields.items in
    let message : IsMessage checked_keys parts fs = c.in_ok-fields.ensures.found in
    without_place (CheckedWrongAt fs) (CheckedFault parts) c.checked_of.result
    (rw c.deref.ensures at c.checked_of.ensures.fault)
    (λ path d bad. checked_fails parts path d (in_fields fs message bad))

pub returns-clause-place : goal.returns-clause-place
returns-clause-place c =
    let parts : List (List ℕ) = parts_view c.args.parts.now in
    let fs : List Wire = map field_view c.in_ok-fields.fields.items in
    let message : IsMessage checked_keys parts fs = c.in_ok-fields.ensures.found in
    last_placed (CheckedWrongAt fs) (CheckedFaultAt parts) c.checked_of.result
    (rw c.deref.ensures at c.checked_of.ensures.fault) (λ path d bad. in_fields fs message bad)
