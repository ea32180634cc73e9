use Rattle.std.proofs.Common.{ℕ, ◌≡◌, ◌≢◌, ◌⊎◌, List, [], map, refl, inr}
use Rattle.std.specs.Str.{IsUtf8}
use Rattle.proto_wire.specs.Reading.{OneofFault, IsUnsupported, in_fields, in_values}
use Rattle.proto_wire.specs.Values.{bytes_at, Utf8Fault}
use Rattle.proto_wire.specs.declared.refusal.Refusal.TheVariants.{Missing}
use Rattle.proto_wire.specs.Fields.{Wire, field_view}
use Rattle.proto_wire.specs.Merge.{parts_view}
use Rattle.proto_wire.specs.Messages.{IsMessage, MessageFault}
use Rattle.rbac_match.specs.Header.{header_field, specifiers, header_keys, HeaderMemberFault, SaysSpecifier, HeaderFault}
use Rattle.rbac_match.proofs.Exits.{exit_memory_or, exit_known, at_found, at_fault}
use Rattle.rbac_match.proofs.HeaderMessages.{name_fault}
use Rattle.rbac_match.proofs.header.read_header_matcher.Goals as goal

pub returns-in_err-fields-clause-fault : goal.returns-in_err-fields-clause-fault
returns-in_err-fields-clause-fault c =
    let parts : List (List ℕ) = parts_view c.args.parts.now in
    exit_memory_or (MessageFault header_keys parts) (HeaderFault parts) c.from_residual.result _
    c.from_residual.ensures.1 c.in_err-fields.ensures.fault
    (λ e bad. in_fields bad)

pub returns-in_err-specifier-clause-fault : goal.returns-in_err-specifier-clause-fault
returns-in_err-specifier-clause-fault c =
    let parts : List (List ℕ) = parts_view c.args.parts.now in
    let fs : List Wire = map field_view c.in_ok-fields.fields.items in
    let message : IsMessage header_keys parts fs = c.in_ok-fields.ensures.found in
    exit_memory_or (OneofFault specifiers IsUnsupported HeaderMemberFault fs) (HeaderFault parts)
    c.from_residual-in_err-specifier.result _ c.from_residual-in_err-specifier.ensures.1
    (rw c.deref.ensures at c.in_err-specifier.ensures.fault)
    (λ e bad. in_values fs message.0 (inr bad))

pub returns-in_err-name-clause-fault : goal.returns-in_err-name-clause-fault
returns-in_err-name-clause-fault c =
    let parts : List (List ℕ) = parts_view c.args.parts.now in
    let fs : List Wire = map field_view c.in_ok-fields.fields.items in
    let message : IsMessage header_keys parts fs = c.in_ok-fields.ensures.found in
    let says : SaysSpecifier fs c.in_ok-specifier.specifier =
    rw c.deref.ensures at c.in_ok-specifier.ensures.found in
    let bytes : List ℕ = bytes_at header_field.name fs in
    exit_known (HeaderFault parts) c.from_residual-in_err-name.result _
    c.from_residual-in_err-name.ensures.1
    (name_fault parts fs c.in_ok-specifier.specifier _ message says
    (at_fault (λ e. Utf8Fault bytes e ⊎ ((e ≡ Missing) × (bytes ≡ []))) c.header_name.result _ c.in_err-name.ensures.same
    (rw c.deref-2.ensures at c.header_name.ensures.fault)))

pub returns-clause-found : goal.returns-clause-found
returns-clause-found c =
    let parts : List (List ℕ) = parts_view c.args.parts.now in
    let fs : List Wire = map field_view c.in_ok-fields.fields.items in
    let message : IsMessage header_keys parts fs = c.in_ok-fields.ensures.found in
    let bytes : List ℕ = bytes_at header_field.name fs in
    let name = at_found (λ name. (name.now ≡ bytes) × IsUtf8 bytes × (bytes ≢ [])) c.header_name.result _ c.in_ok-name.ensures.same
    (rw c.deref-2.ensures at c.header_name.ensures.found) in
    rw name.0 (record {
      fields = fs;
      message = message;
      readable = name.1;
      named = name.2;
      lowered = refl;
      asked = rw c.deref.ensures at c.in_ok-specifier.ensures.found;
      inverted = rw c.deref-3.ensures at c.bool_at-invert_match.ensures;
      emptied = rw c.deref-4.ensures at c.bool_at-treat_missing_header_as_empty.ensures;
    })
