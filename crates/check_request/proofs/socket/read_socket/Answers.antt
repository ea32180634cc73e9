-- Each refusal of a SocketAddress is a fault that is there.
use Rattle.std.proofs.Common.{inl, inr, List, map}
use Rattle.attributes.specs.Address.{IsIpText}
use Rattle.attributes.specs.declared.address.Ip.{Ip}
use Rattle.proto_wire.specs.Fields.{Wire, field_view}
use Rattle.proto_wire.specs.Values.{bytes_at}
use Rattle.check_request.specs.Faults.{SocketFault, bad_host, bad_port}
use Rattle.check_request.specs.Numbers.{socket_field}
use Rattle.check_request.proofs.Exits.{exit_plain}
use Rattle.check_request.proofs.socket.read_socket.Goals as goal

pub returns-in_err-host-clause-fault : goal.returns-in_err-host-clause-fault
returns-in_err-host-clause-fault c =
    let fs : List Wire = map field_view c.args.fields.now in
    let bad = c.in_err-host.ensures.fault in
    exit_plain (λ f. SocketFault c.args.end fs f.part f.refusal) c.from_residual.result _
    c.from_residual.ensures.1 (bad_host bad.0 (inl bad.1))

pub returns-in_err-ip-clause-fault : goal.returns-in_err-ip-clause-fault
returns-in_err-ip-clause-fault c =
    let fs : List Wire = map field_view c.args.fields.now in
    let bad = c.in_err-ip.ensures.fault in
    let none : (ip : Ip) → ¬ (IsIpText (bytes_at socket_field.address fs) ip) =
    rw (← c.in_ok-host.ensures.found.0) bad.2 in
    exit_plain (λ f. SocketFault c.args.end fs f.part f.refusal) c.from_residual-in_err-ip.result _
    c.from_residual-in_err-ip.ensures.1 (bad_host bad.0 (inr (none, bad.1)))

pub returns-in_err-port-clause-fault : goal.returns-in_err-port-clause-fault
returns-in_err-port-clause-fault c =
    let fs : List Wire = map field_view c.args.fields.now in
    let bad = c.in_err-port.ensures.fault in
    exit_plain (λ f. SocketFault c.args.end fs f.part f.refusal) c.from_residual-in_err-port.result _
    c.from_residual-in_err-port.ensures.1 (bad_port bad.0 bad.1)

pub returns-clause-found : goal.returns-clause-found
returns-clause-found c =
    let host = c.in_ok-host.ensures.found in
    let port = c.in_ok-port.ensures.found in
    record {
      host = host.0;
      utf8 = rw host.0 host.1;
      ip = c.in_ok-ip.ensures.found;
      numbered = port.0;
      port = port.1;
      fits = port.2;
    }
