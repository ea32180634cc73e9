use Rattle.std.proofs.Common.{◌≡◌, sym, ap, ◌∙◌, inl, inr, true, false, true≢false, Err, arith, rules}
use Rattle.std.proofs.Math.Logic.{∥∥₁_elim}
use Rattle.std.proofs.Props.{props}
use Rattle.proxy_core.specs.Chain.{VerdictValue}
use Rattle.proxy_core.proofs.Chains.{all_tried, can, filter_asks, filter_more, filter_refuses, never_none}
use Rattle.proxy_core.proofs.chain.try_all.Goals as goal

pub unreachable-requires : goal.unreachable-requires
unreachable-requires c =
    never_none c.args.policies.now c.loop-policy.policy-index _ c.policy-item.result c.loop-policy-test.true
    c.policy-item.is c.requires.ready c.in_default.is

pub returns-then-not-verdict : goal.returns-then-not-verdict
returns-then-not-verdict c =
    let v : VerdictValue = record { allowed = c.in-Ok.verdict.allowed; matched = c.in-Ok.verdict.matched } in
    let refuses : c.in-Ok.verdict.allowed ≡ false = search rules in
    let it = filter_refuses c.args.policies.now c.loop-policy.policy-index c.policy-item.result c.policy-item.result
    c.loop-policy-test.true c.policy-item.is c.in-Some.admitted c.in-Some.is c.args.request.now
    c.loop-policy.matches.items c.loop-policy.invariant v c.in-Ok.ensures.found refuses in
    (it.0, it.1, c.in_ok-push-in-Ok.ensures.items ∙ it.2)

pub returns-in-Err-Memory : goal.returns-in-Err-Memory
returns-in-Err-Memory c =
    filter_asks c.args.policies.now c.loop-policy.policy-index c.policy-item.result c.policy-item.result
    c.loop-policy-test.true c.policy-item.is c.in-Some.admitted c.in-Some.is c.args.request.now
    c.loop-policy.matches.items c.loop-policy.invariant
    (λ w was. elim (c.in-Err-Memory.ensures.unasked w was) [ inl asked ↦ asked | inr bad ↦ absurd (true≢false (sym bad)) ])

pub unreachable-requires-in-Err-OutOfSteps : goal.unreachable-requires-in-Err-OutOfSteps
unreachable-requires-in-Err-OutOfSteps c =
    let it = can c.args.policies.now c.loop-policy.policy-index c.policy-item.result c.policy-item.result
    c.loop-policy-test.true c.policy-item.is c.in-Some.admitted c.in-Some.is c.args.request.now c.requires.fit in
    ∥∥₁_elim it.0 (Prim.hlevel props) (λ was. c.in-Err-OutOfSteps.ensures.within was.0 was.1 it.1
    (ap Err c.in-Err-OutOfSteps.field-0-is))

pub loop-policy-preserved : goal.loop-policy-preserved
loop-policy-preserved c =
    let v : VerdictValue = record { allowed = c.in-Ok.verdict.allowed; matched = c.in-Ok.verdict.matched } in
    let lets : c.in-Ok.verdict.allowed ≡ true = search rules in
    rw c.in_ok-push-in-Ok.ensures.items (filter_more c.args.policies.now c.loop-policy.policy-index c.policy-item.result
    c.policy-item.result c.loop-policy-test.true c.policy-item.is c.in-Some.admitted c.in-Some.is c.args.request.now
    c.loop-policy.matches.items c.loop-policy.invariant v c.in-Ok.ensures.found lets)

pub returns : goal.returns
returns c =
    all_tried c.args.request.now c.args.policies.now c.loop-policy.policy-index c.loop-policy.matches.items
    (omega (arith, c.loop-policy-test.false)) c.loop-policy.invariant
