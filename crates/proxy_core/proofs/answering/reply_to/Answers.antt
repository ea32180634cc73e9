use Rattle.std.proofs.Common.{refl}
use Rattle.ads.specs.Ends.{client_view}
use Rattle.proxy_core.proofs.Chains.{all_can_decide}
use Rattle.proxy_core.proofs.answering.reply_to.Goals as goal

pub judged-requires : goal.judged-requires
judged-requires c =
    let v = client_view c.args.client.now in
    rw c.policies.ensures.found (all_can_decide v.config.limits c.in-Judge.request v.config.filters v.accepted.policies
    c.policies.ensures.admitted (rw c.in-Judge.is at c.requires))

pub returns-in_ok-case-in-Judge-clause-found : goal.returns-in_ok-case-in-Judge-clause-found
returns-in_ok-case-in-Judge-clause-found c = rw c.in-Judge.is
    (rw c.policies.ensures.found at c.in_ok-case-in-Judge.ensures.found, c.generation.ensures, refl, rw c.method.ensures at c.eq.ensures)
