-- Each refusal of a CheckRequest is a fault that is there.
use Rattle.std.proofs.Common.{◌≡◌, [], ◌∷◌, List, map}
use Rattle.proto_wire.specs.Fields.{Wire, field_view}
use Rattle.proto_wire.specs.Messages.{PartsFault}
use Rattle.proto_wire.specs.Values.{payloads}
use Rattle.std.proofs.lemmas.Result.{IfOk-weaker}
use Rattle.check_request.specs.Check.{IsCheck, IsContext}
use Rattle.check_request.specs.Faults.{ContextFault, HasFault, not_whole, bad_attributes, in_context}
use Rattle.check_request.specs.Numbers.{check_field}
use Rattle.check_request.specs.View.{check_view}
use Rattle.check_request.specs.declared.part.CheckPart.TheVariants.{Whole, Attributes}
use Rattle.check_request.proofs.Exits.{exit_or, last_or}
use Rattle.check_request.proofs.check.read_check.Goals as goal

pub returns-in_err-check-clause-fault : goal.returns-in_err-check-clause-fault
returns-in_err-check-clause-fault c =
    let bytes = c.args.bytes.now in
    exit_or (λ p e. (p ≡ Whole) × PartsFault (bytes ∷ []) e) (HasFault bytes)
    (λ p d bad. not_whole bad.0 bad.1) c.from_residual.result _ c.from_residual.ensures.1
    c.in_err-check.ensures.fault

pub returns-in_err-context-clause-fault : goal.returns-in_err-context-clause-fault
returns-in_err-context-clause-fault c =
    let bytes = c.args.bytes.now in
    let fs : List Wire = map field_view c.in_ok-check.check.items in
    exit_or (λ p e. (p ≡ Attributes) × PartsFault (payloads check_field.attributes fs) e) (HasFault bytes)
    (λ p d bad. bad_attributes fs c.in_ok-check.ensures.found bad.0 bad.1)
    c.from_residual-in_err-context.result _ c.from_residual-in_err-context.ensures.1
    (rw (← c.deref.ensures) c.in_err-context.ensures.fault)

pub returns-clause-found : goal.returns-clause-found
returns-clause-found c =
    let fs : List Wire = map field_view c.in_ok-check.check.items in
    let context : List Wire = map field_view c.in_ok-context.context.items in
    IfOk-weaker c.read_context.result (λ x. IsContext c.args.name context (check_view x))
    (λ x. IsCheck c.args.name c.args.bytes.now (check_view x))
    (λ x is. (fs, context, c.in_ok-check.ensures.found, rw (← c.deref.ensures) c.in_ok-context.ensures.found, is))
    (rw (← c.deref-2.ensures) c.read_context.ensures.found)

pub returns-clause-fault : goal.returns-clause-fault
returns-clause-fault c =
    let fs : List Wire = map field_view c.in_ok-check.check.items in
    let context : List Wire = map field_view c.in_ok-context.context.items in
    last_or (ContextFault context) (HasFault c.args.bytes.now)
    (λ p d bad. in_context fs context c.in_ok-check.ensures.found
    (rw (← c.deref.ensures) c.in_ok-context.ensures.found) bad)
    c.read_context.result (rw (← c.deref-2.ensures) c.read_context.ensures.fault)
