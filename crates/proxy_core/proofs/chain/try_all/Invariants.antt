use Rattle.std.proofs.Common.{drop}
use Rattle.ads.specs.Views.{policies_view}
use Rattle.proxy_core.proofs.Chains.{SoFar}
use Rattle.proxy_core.proofs.chain.try_all.Given as goal

abbrev pub invariant-loop-policy : goal.invariant-loop-policy
invariant-loop-policy l =
    SoFar l.request (policies_view l.policies) (policies_view (drop l.policy-index l.policies)) l.matches.items
