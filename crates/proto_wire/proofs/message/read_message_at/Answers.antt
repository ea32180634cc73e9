use Rattle.std.proofs.Common.{◌≡◌, List, map}
use Rattle.proto_wire.specs.Fields.{Wire, field_view}
use Rattle.proto_wire.specs.Keys.{SomeUnknown}
use Rattle.proto_wire.specs.Merge.{parts_view}
use Rattle.proto_wire.specs.Messages.{PartsFault, MessageFault, not_known, not_whole}
use Rattle.proto_wire.specs.Places.{NamesUnknown, MessagePlace, unknown_field}
use Rattle.proto_wire.specs.declared.refusal.Refusal.TheVariants.{UnknownField}
use Rattle.proto_wire.proofs.PlaceExits.{exit_with, exit_known, exit_new_or, exit_only_memory, exit_told}
use Rattle.proto_wire.proofs.Unique.{merges_unique, merges_disjoint}
use Rattle.proto_wire.proofs.KeyLemmas.{known_disjoint}
use Rattle.proto_wire.proofs.Messages.{merged_unknown, parts_place}
use Rattle.proto_wire.proofs.message.read_message_at.Goals as goal

pub returns-in_err-fields-clause-fault : goal.returns-in_err-fields-clause-fault
returns-in_err-fields-clause-fault c =
    let parts = parts_view c.args.parts.now in
    exit_new_or (PartsFault parts) (MessageFault c.args.keys.now parts) c.from_residual.result _
    c.from_residual.ensures.1 c.in_err-fields.ensures.fault (λ e bad. not_whole bad.0 bad.1)

pub returns-in_err-fields-clause-place : goal.returns-in_err-fields-clause-place
returns-in_err-fields-clause-place c =
    parts_place c.args.keys.now (parts_view c.args.parts.now) c.from_residual.result _
    c.from_residual.ensures.1 c.in_err-fields.ensures.fault

pub returns-in_err-fields-clause-at_once : goal.returns-in_err-fields-clause-at_once
returns-in_err-fields-clause-at_once c breaks =
    exit_told c.from_residual.result _ _ c.from_residual.ensures.1 (c.in_err-fields.ensures.at_once breaks)

pub returns-in_err-fields-clause-reads : goal.returns-in_err-fields-clause-reads
returns-in_err-fields-clause-reads c fs is =
    let exit = c.from_residual in
    exit_only_memory (PartsFault (parts_view c.args.parts.now)) (λ v. map field_view v.items ≡ fs)
    exit.result _ exit.ensures.1
    c.in_err-fields.ensures.fault (λ bad. merges_disjoint (parts_view c.args.parts.now) fs is.0 bad.0)

pub returns-in_err-require_known-clause-fault : goal.returns-in_err-require_known-clause-fault
returns-in_err-require_known-clause-fault c =
    let exit = c.from_residual-in_err-require_known in
    let keys = c.args.keys.now in
    let parts = parts_view c.args.parts.now in
    let fs : List Wire = map field_view c.in_ok-fields.fields.items in
    let bad : SomeUnknown keys fs × (c.in_err-require_known.field-0.0.refusal ≡ UnknownField) =
    rw (← c.deref.ensures) c.in_err-require_known.ensures.fault in
    exit_known (MessageFault keys parts) exit.result _ exit.ensures.1
    (not_known (merged_unknown keys parts fs c.in_ok-fields.ensures.found bad.0) bad.1)

pub returns-in_err-require_known-clause-place : goal.returns-in_err-require_known-clause-place
returns-in_err-require_known-clause-place c =
    let exit = c.from_residual-in_err-require_known in
    let keys = c.args.keys.now in
    let fs : List Wire = map field_view c.in_ok-fields.fields.items in
    let bad : SomeUnknown keys fs × (c.in_err-require_known.field-0.0.refusal ≡ UnknownField) =
    rw (← c.deref.ensures) c.in_err-require_known.ensures.fault in
    let named : NamesUnknown keys fs c.in_err-require_known.field-0.0 =
    rw (← c.deref.ensures) c.in_err-require_known.ensures.place in
    exit_with (MessagePlace keys (parts_view c.args.parts.now)) exit.result _ exit.ensures.1
    (unknown_field fs c.in_ok-fields.ensures.found bad.1 named)

pub returns-in_err-require_known-clause-reads : goal.returns-in_err-require_known-clause-reads
returns-in_err-require_known-clause-reads c gs is =
    let keys = c.args.keys.now in
    let parts = parts_view c.args.parts.now in
    let fs : List Wire = map field_view c.in_ok-fields.fields.items in
    let bad : SomeUnknown keys fs × (c.in_err-require_known.field-0.0.refusal ≡ UnknownField) =
    rw (← c.deref.ensures) c.in_err-require_known.ensures.fault in
    let same : fs ≡ gs = merges_unique parts fs gs c.in_ok-fields.ensures.found is.0 in
    absurd (known_disjoint keys gs is.1 (rw same at bad.0))

pub returns-clause-reads : goal.returns-clause-reads
returns-clause-reads c gs is =
    merges_unique (parts_view c.args.parts.now) _ gs c.in_ok-fields.ensures.found is.0
