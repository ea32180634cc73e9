use Rattle.std.proofs.Common.{◌∙◌}
use Rattle.rbac_policy.proofs.PolicyNames.{name_at}
use Rattle.rbac_policy.proofs.filter.Admitted.policy_name.Goals as goal

pub returns : goal.returns
returns c =
    let rules = c.args.self.now.rules in
    let named = rw c.deref.ensures.value at c.name_in.ensures in
    named ∙ name_at rules.list rules.policies.items c.args.number rules.ordered
