use Rattle.std.proofs.Common.{map, take}
use Rattle.rbac_policy.specs.Named.{policy_view}
use Rattle.rbac_policy.specs.private.PolicyIndex.{AreInOrder}
use Rattle.rbac_policy.proofs.policy_index.needs_of.Given as goal

abbrev pub invariant-loop-policy : goal.invariant-loop-policy
invariant-loop-policy l = AreInOrder l.most l.name (map (policy_view l.list) (take l.policy-index l.policies)) l.needs.items
