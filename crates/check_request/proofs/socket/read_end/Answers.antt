-- Each refusal of an end of the connection is a fault that is there.
use Rattle.std.proofs.Common.{◌≡◌, ◌≢◌, inr, List, [], map, arith}
use Rattle.std.proofs.lemmas.Grind.{common_steps}
use Rattle.proto_wire.specs.Fields.{Wire, field_view}
use Rattle.proto_wire.specs.Merge.{Merges, parts_view}
use Rattle.proto_wire.specs.Messages.{PartsFault}
use Rattle.proto_wire.specs.Values.{payloads}
use Rattle.check_request.specs.Faults.{EndFault, FaultOr, bad_address, bad_socket, in_socket, socket_parts}
use Rattle.check_request.specs.Numbers.{peer_field}
use Rattle.check_request.specs.declared.part.CheckPart.TheVariants.{Address}
use Rattle.check_request.proofs.Exits.{exit_or, exit_plain}
use Rattle.check_request.proofs.Lists.{parts_none, parts_some}
use Rattle.check_request.proofs.socket.read_end.Goals as goal

pub returns-in_err-address-clause-fault : goal.returns-in_err-address-clause-fault
returns-in_err-address-clause-fault c =
    let peer : List Wire = map field_view c.args.peer.now in
    exit_or (λ p e. (p ≡ Address c.args.end) × PartsFault (payloads peer_field.address peer) e)
    (EndFault c.args.end peer) (λ p d bad. bad_address bad.0 bad.1)
    c.from_residual.result _ c.from_residual.ensures.1 c.in_err-address.ensures.fault

pub returns-then-is_empty-clause-found : goal.returns-then-is_empty-clause-found
returns-then-is_empty-clause-found c =
    let address : List Wire = map field_view c.in_ok-address.address.items in
    let given : parts_view c.in_ok-parts.parts.items ≡ socket_parts address =
    rw (c.deref-2.ensures, c.in_ok-run.ensures, c.deref.ensures) at c.in_ok-parts.ensures in
    let none : c.in_ok-parts.parts.items ≡ [] = grind (arith, common_steps) in
    (address, c.in_ok-address.ensures.found, parts_none c.in_ok-parts.parts.items (socket_parts address) given none)

pub returns-in_err-fields-clause-fault : goal.returns-in_err-fields-clause-fault
returns-in_err-fields-clause-fault c =
    let peer : List Wire = map field_view c.args.peer.now in
    let address : List Wire = map field_view c.in_ok-address.address.items in
    let given : parts_view c.in_ok-parts.parts.items ≡ socket_parts address =
    rw (c.deref-2.ensures, c.in_ok-run.ensures, c.deref.ensures) at c.in_ok-parts.ensures in
    exit_or (λ p e. (p ≡ Address c.args.end) × PartsFault (socket_parts address) e) (EndFault c.args.end peer)
    (λ p d bad. bad_socket address c.in_ok-address.ensures.found bad.0 bad.1)
    c.from_residual-in_err-fields.result _ c.from_residual-in_err-fields.ensures.1
    (rw (c.deref-3.ensures, given) at c.in_err-fields.ensures.fault)

pub returns-in_err-socket-clause-fault : goal.returns-in_err-socket-clause-fault
returns-in_err-socket-clause-fault c =
    let peer : List Wire = map field_view c.args.peer.now in
    let address : List Wire = map field_view c.in_ok-address.address.items in
    let fs : List Wire = map field_view c.in_ok-fields.fields.items in
    let given : parts_view c.in_ok-parts.parts.items ≡ socket_parts address =
    rw (c.deref-2.ensures, c.in_ok-run.ensures, c.deref.ensures) at c.in_ok-parts.ensures in
    let some : c.in_ok-parts.parts.items ≢ [] = grind (arith, common_steps) in
    let merges : Merges (socket_parts address) fs = rw (c.deref-3.ensures, given) at c.in_ok-fields.ensures.found in
    exit_plain (FaultOr (EndFault c.args.end peer)) c.from_residual-in_err-socket.result _
    c.from_residual-in_err-socket.ensures.1
    (inr (in_socket address fs c.in_ok-address.ensures.found
    (parts_some c.in_ok-parts.parts.items (socket_parts address) given some) merges
    (rw c.deref-4.ensures at c.in_err-socket.ensures.fault)))

pub returns-clause-found : goal.returns-clause-found
returns-clause-found c =
    let address : List Wire = map field_view c.in_ok-address.address.items in
    let fs : List Wire = map field_view c.in_ok-fields.fields.items in
    let given : parts_view c.in_ok-parts.parts.items ≡ socket_parts address =
    rw (c.deref-2.ensures, c.in_ok-run.ensures, c.deref.ensures) at c.in_ok-parts.ensures in
    let some : c.in_ok-parts.parts.items ≢ [] = grind (arith, common_steps) in
    let merges : Merges (socket_parts address) fs = rw (c.deref-3.ensures, given) at c.in_ok-fields.ensures.found in (
      address,
      c.in_ok-address.ensures.found,
      (
        parts_some c.in_ok-parts.parts.items (socket_parts address) given some,
        (fs, merges, rw c.deref-4.ensures at c.in_ok-socket.ensures.found),
      ),
    )
