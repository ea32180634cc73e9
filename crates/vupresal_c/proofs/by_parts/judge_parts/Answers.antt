use Rattle.std.proofs.Common.{◌≡◌, Some, inr, subst, sym}
use Rattle.std.proofs.lemmas.Result.{err_from_is_err_and}
use Rattle.c_inputs.specs.Facts.{facts_given}
use Rattle.c_inputs.specs.Requests.{parts_given, protocol_given}
use Rattle.http_front.specs.Parts.{PartsAsk, PartsFault, PartsValue}
use Rattle.http_front.proofs.Spelling.{parts_in_limits}
use Rattle.rbac_policy.specs.Admitted.{limits_view}
use Rattle.vupresal_c.specs.Decisions.{AreOutOfRange, GivenFault}
use Rattle.vupresal_c.proofs.Deciding.{run_fails}
use Rattle.vupresal_c.proofs.Inputs.{has_protocol, parts_are}
use Rattle.vupresal_c.proofs.by_parts.judge_parts.Goals as goal

pub returns-in_err-decide-in-Ok-clause-fault : goal.returns-in_err-decide-in-Ok-clause-fault
returns-in_err-decide-in-Ok-clause-fault c =
    let p = err_from_is_err_and c.from_residual-in_err-decide-in-Ok.result
    c.from_residual-in_err-decide-in-Ok.ensures.1 in
    let given : protocol_given c.args.request.now ≡ Some c.in-Some.protocol = sym (rw c.in-Some.is at c.given_protocol.ensures) in
    let asks : PartsAsk (parts_given c.args.request.now) (limits_view c.args.admitted.now) (facts_given c.args.facts.now) c.in-Ok.request
    = subst (λ (ps : PartsValue). PartsAsk ps (limits_view c.args.admitted.now) (facts_given c.args.facts.now) c.in-Ok.request)
    (parts_are c.args.request.now c.in-Some.protocol given)
    (rw (c.limits.ensures, c.in_ok-conn.ensures.found, c.in-Ok.is) at c.in_ok-request.ensures.request) in
    rw (p.1, p.2) (run_fails (GivenFault (parts_given c.args.request.now) (facts_given c.args.facts.now))
    ⊥ (AreOutOfRange c.args.request.now c.args.facts.now) c.args.facts.now c.args.admitted.now c.in-Ok.request
    c.decide.result c.in_err-decide-in-Ok.field-0.0 c.in_err-decide-in-Ok.was
    (parts_in_limits (parts_given c.args.request.now) (limits_view c.args.admitted.now) (facts_given c.args.facts.now)
    c.in-Ok.request asks)
    c.decide.ensures.within)

pub returns-in_ok-decide-in-Ok-clause-found : goal.returns-in_ok-decide-in-Ok-clause-found
returns-in_ok-decide-in-Ok-clause-found c =
    let given : protocol_given c.args.request.now ≡ Some c.in-Some.protocol = sym (rw c.in-Some.is at c.given_protocol.ensures) in
    let asks : PartsAsk (parts_given c.args.request.now) (limits_view c.args.admitted.now) (facts_given c.args.facts.now) c.in-Ok.request
    = subst (λ (ps : PartsValue). PartsAsk ps (limits_view c.args.admitted.now) (facts_given c.args.facts.now) c.in-Ok.request)
    (parts_are c.args.request.now c.in-Some.protocol given)
    (rw (c.limits.ensures, c.in_ok-conn.ensures.found, c.in-Ok.is) at c.in_ok-request.ensures.request) in (
      c.in-Ok.request,
      (c.in_ok-conn.ensures.accepted, has_protocol c.args.request.now c.in-Some.protocol given, asks),
      c.in_ok-decide-in-Ok.ensures.found,
    )

pub returns-in-Err-clause-fault : goal.returns-in-Err-clause-fault
returns-in-Err-clause-fault c =
    let given : protocol_given c.args.request.now ≡ Some c.in-Some.protocol = sym (rw c.in-Some.is at c.given_protocol.ensures) in
    let why : PartsFault (parts_given c.args.request.now) (limits_view c.args.admitted.now) (facts_given c.args.facts.now) c.in-Err.fault
    = subst (λ (ps : PartsValue). PartsFault ps (limits_view c.args.admitted.now) (facts_given c.args.facts.now) c.in-Err.fault)
    (parts_are c.args.request.now c.in-Some.protocol given)
    (rw (c.limits.ensures, c.in_ok-conn.ensures.found, c.in-Err.is) at c.in_ok-request.ensures.fault) in
    inr why
