use Rattle.ads.specs.Views.{policies_view}
use Rattle.proxy_core.proofs.Chains.{reported_verdict}
use Rattle.proxy_core.proofs.chain.judged.Goals as goal

pub returns-in-Decided-true-default-clause-found : goal.returns-in-Decided-true-default-clause-found
returns-in-Decided-true-default-clause-found c =
    let tried = rw c.in-Decided-true-default.is at c.in_ok-matches.ensures in
    rw c.in-Decided-true-default.field-0-test at (reported_verdict c.args.request.now (policies_view c.args.policies.now)
    c.in-Decided-true-default.field-0 c.in-Decided-true-default.matches.items c.if-not-is_ready.ensures tried)

pub returns-in-Decided-false-default-clause-found : goal.returns-in-Decided-false-default-clause-found
returns-in-Decided-false-default-clause-found c =
    let tried = rw c.in-Decided-false-default.is at c.in_ok-matches.ensures in
    rw c.in-Decided-false-default.field-0-test at (reported_verdict c.args.request.now (policies_view c.args.policies.now)
    c.in-Decided-false-default.field-0 c.in-Decided-false-default.matches.items c.if-not-is_ready.ensures tried)
