-- Each refusal of what is said of a connection is a fault that is there.
use Rattle.std.proofs.Common.{◌≡◌, inl, inr, List, map}
use Rattle.proto_wire.specs.Fields.{Wire, field_view}
use Rattle.proto_wire.specs.Messages.{PartsFault}
use Rattle.proto_wire.specs.Values.{payloads}
use Rattle.check_request.specs.Faults.{EndFault, FaultOr, bad_peer, bad_principal, bad_server_name, bad_session, in_end}
use Rattle.check_request.specs.Numbers.{context_field, number_of}
use Rattle.check_request.specs.declared.part.CheckPart.TheVariants.{Peer, Session}
use Rattle.check_request.specs.declared.part.End.{End}
use Rattle.check_request.specs.private.Contexts.{KnownFault}
use Rattle.check_request.proofs.Exits.{exit_or, exit_plain}
use Rattle.check_request.proofs.check.read_known.Goals as goal

pub returns-in_err-source-clause-fault : goal.returns-in_err-source-clause-fault
returns-in_err-source-clause-fault c =
    let context : List Wire = map field_view c.args.context.now in
    exit_or (λ p e. (p ≡ Peer End.Source) × PartsFault (payloads (number_of End.Source) context) e)
    (KnownFault context (map field_view c.args.http.now)) (λ p d bad. inr (bad_peer End.Source bad.0 bad.1))
    c.from_residual.result _ c.from_residual.ensures.1 c.in_err-source.ensures.fault

pub returns-in_err-destination-clause-fault : goal.returns-in_err-destination-clause-fault
returns-in_err-destination-clause-fault c =
    let context : List Wire = map field_view c.args.context.now in
    exit_or (λ p e. (p ≡ Peer End.Destination) × PartsFault (payloads (number_of End.Destination) context) e)
    (KnownFault context (map field_view c.args.http.now)) (λ p d bad. inr (bad_peer End.Destination bad.0 bad.1))
    c.from_residual-in_err-destination.result _ c.from_residual-in_err-destination.ensures.1
    c.in_err-destination.ensures.fault

pub returns-in_err-session-clause-fault : goal.returns-in_err-session-clause-fault
returns-in_err-session-clause-fault c =
    let context : List Wire = map field_view c.args.context.now in
    exit_or (λ p e. (p ≡ Session) × PartsFault (payloads context_field.tls_session context) e)
    (KnownFault context (map field_view c.args.http.now)) (λ p d bad. inr (bad_session bad.0 bad.1))
    c.from_residual-in_err-session.result _ c.from_residual-in_err-session.ensures.1
    c.in_err-session.ensures.fault

pub returns-in_err-read_scheme-clause-fault : goal.returns-in_err-read_scheme-clause-fault
returns-in_err-read_scheme-clause-fault c =
    exit_plain (FaultOr (KnownFault (map field_view c.args.context.now) (map field_view c.args.http.now)))
    c.from_residual-in_err-read_scheme.result _ c.from_residual-in_err-read_scheme.ensures.1
    (inr (inl c.in_err-read_scheme.ensures.fault))

pub returns-in_err-read_end-clause-fault : goal.returns-in_err-read_end-clause-fault
returns-in_err-read_end-clause-fault c =
    let source : List Wire = map field_view c.in_ok-source.source.items in
    exit_or (EndFault End.Source source)
    (KnownFault (map field_view c.args.context.now) (map field_view c.args.http.now))
    (λ p d bad. inr (in_end End.Source source c.in_ok-source.ensures.found bad))
    c.from_residual-in_err-read_end.result _ c.from_residual-in_err-read_end.ensures.1
    (rw (← c.deref.ensures) c.in_err-read_end.ensures.fault)

pub returns-in_err-read_end-2-clause-fault : goal.returns-in_err-read_end-2-clause-fault
returns-in_err-read_end-2-clause-fault c =
    let destination : List Wire = map field_view c.in_ok-destination.destination.items in
    exit_or (EndFault End.Destination destination)
    (KnownFault (map field_view c.args.context.now) (map field_view c.args.http.now))
    (λ p d bad. inr (in_end End.Destination destination c.in_ok-destination.ensures.found bad))
    c.from_residual-in_err-read_end-2.result _ c.from_residual-in_err-read_end-2.ensures.1
    (rw (← c.deref-2.ensures) c.in_err-read_end-2.ensures.fault)

pub returns-in_err-text_in-clause-fault : goal.returns-in_err-text_in-clause-fault
returns-in_err-text_in-clause-fault c =
    let source : List Wire = map field_view c.in_ok-source.source.items in
    let bad = rw c.deref-3.ensures at c.in_err-text_in.ensures.fault in
    exit_plain (FaultOr (KnownFault (map field_view c.args.context.now) (map field_view c.args.http.now)))
    c.from_residual-in_err-text_in.result _ c.from_residual-in_err-text_in.ensures.1
    (inr (inr (bad_principal source c.in_ok-source.ensures.found bad.0 bad.1)))

pub returns-in_err-text_in-2-clause-fault : goal.returns-in_err-text_in-2-clause-fault
returns-in_err-text_in-2-clause-fault c =
    let session : List Wire = map field_view c.in_ok-session.session.items in
    let bad = rw c.deref-4.ensures at c.in_err-text_in-2.ensures.fault in
    exit_plain (FaultOr (KnownFault (map field_view c.args.context.now) (map field_view c.args.http.now)))
    c.from_residual-in_err-text_in-2.result _ c.from_residual-in_err-text_in-2.ensures.1
    (inr (inr (bad_server_name session c.in_ok-session.ensures.found bad.0 bad.1)))
