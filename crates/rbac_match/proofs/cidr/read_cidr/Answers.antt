-- Each refusal of a range of addresses is a fault that is there.
use Rattle.std.proofs.Common.{ℕ, ◌≡◌, ◌<◌, List, map}
use Rattle.std.specs.Str.{IsUtf8}
use Rattle.attributes.specs.Address.{IsIpText, width_of}
use Rattle.proto_wire.specs.Reading.{in_fields, in_values}
use Rattle.proto_wire.specs.Fields.{Wire, field_view}
use Rattle.proto_wire.specs.Merge.{parts_view}
use Rattle.proto_wire.specs.Messages.{MessageFault}
use Rattle.proto_wire.specs.Values.{bytes_at, payloads}
use Rattle.proto_wire.specs.declared.refusal.Refusal.TheVariants.{OutOfRange}
use Rattle.rbac_match.specs.Cidr.{cidr_field, cidr_keys, uint32_keys, IsUint32, AddressFault, CidrFault, in_address, in_length, too_long}
use Rattle.rbac_match.proofs.Exits.{exit_memory_or, exit_known, at_found, at_fault, last_fault, placed_found, placed_fault}
use Rattle.rbac_match.proofs.cidr.read_cidr.Goals as goal

pub returns-in_err-fields-clause-fault : goal.returns-in_err-fields-clause-fault
returns-in_err-fields-clause-fault c =
    let parts : List (List ℕ) = parts_view c.args.parts.now in
    exit_memory_or (MessageFault cidr_keys parts) (CidrFault parts) c.from_residual.result _
    c.from_residual.ensures.1 c.in_err-fields.ensures.fault (λ e bad. in_fields bad)

pub returns-in_err-address-clause-fault : goal.returns-in_err-address-clause-fault
returns-in_err-address-clause-fault c =
    let parts : List (List ℕ) = parts_view c.args.parts.now in
    let fs : List Wire = map field_view c.in_ok-fields.fields.items in
    exit_known (CidrFault parts) c.from_residual-in_err-address.result _
    c.from_residual-in_err-address.ensures.1
    (in_values fs c.in_ok-fields.ensures.found.0 (in_address (at_fault (AddressFault (bytes_at cidr_field.address_prefix fs))
    c.address_prefix.result _ c.in_err-address.ensures.same (rw c.deref.ensures at c.address_prefix.ensures.fault))))

pub returns-in_err-prefix_len-clause-fault : goal.returns-in_err-prefix_len-clause-fault
returns-in_err-prefix_len-clause-fault c =
    let parts : List (List ℕ) = parts_view c.args.parts.now in
    let fs : List Wire = map field_view c.in_ok-fields.fields.items in
    exit_memory_or (MessageFault uint32_keys (payloads cidr_field.prefix_len fs)) (CidrFault parts)
    c.from_residual-in_err-prefix_len.result _ c.from_residual-in_err-prefix_len.ensures.1
    (placed_fault (MessageFault uint32_keys (payloads cidr_field.prefix_len fs))
    (MessageFault uint32_keys (payloads cidr_field.prefix_len fs)) 2 0 c.read_uint32.result _ c.in_err-prefix_len.ensures
    (rw (c.deref-3.ensures, c.in_ok-payloads.ensures, c.deref-2.ensures) at c.read_uint32.ensures.fault) (λ e bad. bad))
    (λ e bad. in_values fs c.in_ok-fields.ensures.found.0 (in_length bad))

pub returns-clause-fault : goal.returns-clause-fault
returns-clause-fault c =
    let parts : List (List ℕ) = parts_view c.args.parts.now in
    let fs : List Wire = map field_view c.in_ok-fields.fields.items in
    let text : List ℕ = bytes_at cidr_field.address_prefix fs in
    let spelled = at_found (λ ip. IsUtf8 text × IsIpText text ip) c.address_prefix.result _ c.in_ok-address.ensures.same
    (rw c.deref.ensures at c.address_prefix.ensures.found) in
    let length = placed_found (IsUint32 (payloads cidr_field.prefix_len fs)) 2 0 c.read_uint32.result _ c.in_ok-prefix_len.ensures
    (rw (c.deref-3.ensures, c.in_ok-payloads.ensures, c.deref-2.ensures) at c.read_uint32.ensures.found) in
    last_fault (λ e. (width_of c.in_ok-address.address < c.in_ok-prefix_len.prefix_len) × (e ≡ OutOfRange))
    (CidrFault parts) c.at_field-2.result
    (at_fault (λ e. (width_of c.in_ok-address.address < c.in_ok-prefix_len.prefix_len) × (e ≡ OutOfRange))
    c.range_of.result c.at_field-2.result c.at_field-2.ensures.same c.range_of.ensures.fault)
    (λ e bad. in_values fs c.in_ok-fields.ensures.found.0
    (too_long length.0 c.in_ok-address.address spelled.1 length.1.0 (rw (← length.2) bad.0) bad.1))
