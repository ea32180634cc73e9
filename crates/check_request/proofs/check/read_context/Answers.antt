-- Each refusal of an AttributeContext is a fault that is there.
use Rattle.std.proofs.Common.{◌≡◌, inl, inr, List, map}
use Rattle.proto_wire.specs.Fields.{Wire, field_view}
use Rattle.proto_wire.specs.Messages.{PartsFault}
use Rattle.proto_wire.specs.Values.{payloads}
use Rattle.proto_wire.specs.declared.refusal.Refusal.{Refusal}
use Rattle.check_request.specs.Faults.{ContextFault, FaultOr, FiltersFault, LinesFault, bad_http, bad_lines, bad_request, in_extensions, in_http}
use Rattle.check_request.specs.Numbers.{Inner, context_field, request_field}
use Rattle.check_request.specs.declared.part.CheckPart.{CheckPart}
use Rattle.check_request.specs.declared.part.CheckPart.TheVariants.{Http, Request}
use Rattle.check_request.specs.View.{known_view}
use Rattle.check_request.specs.private.Contexts.{KnownFault}
use Rattle.check_request.proofs.Exits.{exit_or, exit_plain}
use Rattle.check_request.proofs.check.read_context.Goals as goal

-- a fault of what is said of the connection is one of the context
known_fault : (context request http : List Wire) → Inner context_field.request context request
    → Inner request_field.http request http → (p : CheckPart) (e : Refusal) → KnownFault context http p e
    → ContextFault context p e
known_fault context request http is inside p e (inl bad) = in_http request http is inside bad
known_fault context request http is inside p e (inr bad) = bad

pub returns-in_err-request-clause-fault : goal.returns-in_err-request-clause-fault
returns-in_err-request-clause-fault c =
    let context : List Wire = map field_view c.args.context.now in
    exit_or (λ p e. (p ≡ Request) × PartsFault (payloads context_field.request context) e)
    (ContextFault context) (λ p d bad. bad_request bad.0 bad.1)
    c.from_residual.result _ c.from_residual.ensures.1 c.in_err-request.ensures.fault

pub returns-in_err-http-clause-fault : goal.returns-in_err-http-clause-fault
returns-in_err-http-clause-fault c =
    let request : List Wire = map field_view c.in_ok-request.request.items in
    exit_or (λ p e. (p ≡ Http) × PartsFault (payloads request_field.http request) e)
    (ContextFault (map field_view c.args.context.now))
    (λ p d bad. bad_http request c.in_ok-request.ensures.found bad.0 bad.1)
    c.from_residual-in_err-http.result _ c.from_residual-in_err-http.ensures.1
    (rw (← c.deref.ensures) c.in_err-http.ensures.fault)

pub returns-in_err-protocol-clause-fault : goal.returns-in_err-protocol-clause-fault
returns-in_err-protocol-clause-fault c =
    let request : List Wire = map field_view c.in_ok-request.request.items in
    let http : List Wire = map field_view c.in_ok-http.http.items in
    exit_plain (FaultOr (ContextFault (map field_view c.args.context.now)))
    c.from_residual-in_err-protocol.result _ c.from_residual-in_err-protocol.ensures.1
    (inr (in_http request http c.in_ok-request.ensures.found (rw (← c.deref.ensures) c.in_ok-http.ensures.found)
    (rw (← c.deref-2.ensures) c.in_err-protocol.ensures.fault)))

pub returns-in_err-lines-clause-fault : goal.returns-in_err-lines-clause-fault
returns-in_err-lines-clause-fault c =
    let request : List Wire = map field_view c.in_ok-request.request.items in
    let http : List Wire = map field_view c.in_ok-http.http.items in
    exit_or (LinesFault http) (ContextFault (map field_view c.args.context.now))
    (λ p d bad. in_http request http c.in_ok-request.ensures.found
    (rw (← c.deref.ensures) c.in_ok-http.ensures.found) (bad_lines bad))
    c.from_residual-in_err-lines.result _ c.from_residual-in_err-lines.ensures.1
    (rw (← c.deref-3.ensures) c.in_err-lines.ensures.fault)

pub returns-in_err-known-clause-fault : goal.returns-in_err-known-clause-fault
returns-in_err-known-clause-fault c =
    let context : List Wire = map field_view c.args.context.now in
    let request : List Wire = map field_view c.in_ok-request.request.items in
    let http : List Wire = map field_view c.in_ok-http.http.items in
    exit_or (KnownFault context http) (ContextFault context)
    (known_fault context request http c.in_ok-request.ensures.found
    (rw (← c.deref.ensures) c.in_ok-http.ensures.found))
    c.from_residual-in_err-known.result _ c.from_residual-in_err-known.ensures.1
    (rw (← c.deref-4.ensures) c.in_err-known.ensures.fault)

pub returns-in_err-read_filters-clause-fault : goal.returns-in_err-read_filters-clause-fault
returns-in_err-read_filters-clause-fault c =
    let context : List Wire = map field_view c.args.context.now in
    exit_or (FiltersFault (payloads context_field.context_extensions context)) (ContextFault context)
    (λ p d bad. in_extensions bad)
    c.from_residual-in_err-read_filters.result _ c.from_residual-in_err-read_filters.ensures.1
    (rw (c.deref-7.ensures, c.in_ok-extensions.ensures) at c.in_err-read_filters.ensures.fault)

pub returns-clause-found : goal.returns-clause-found
returns-clause-found c = record {
  request = map field_view c.in_ok-request.request.items;
  http = map field_view c.in_ok-http.http.items;
  known = known_view c.in_ok-known.known;
  request_is = c.in_ok-request.ensures.found;
  http_is = rw (← c.deref.ensures) c.in_ok-http.ensures.found;
  parts = record {
    method = rw c.deref-5.ensures at c.bytes_at.ensures;
    target = rw c.deref-6.ensures at c.bytes_at-2.ensures;
    protocol = rw (← c.deref-2.ensures) c.in_ok-protocol.ensures.found;
    fields = rw (← c.deref-3.ensures) c.in_ok-lines.ensures.found;
  };
  is_known = rw (← c.deref-4.ensures) c.in_ok-known.ensures.found;
  facts = c.in_ok-conn_of.ensures;
  filters = rw (c.deref-7.ensures, c.in_ok-extensions.ensures) at c.in_ok-read_filters.ensures.found;
}
