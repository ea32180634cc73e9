use Rattle.std.proofs.Common.{◌≡◌, ◌∙◌}
use Rattle.std.proofs.lemmas.Result.{MatchResult-weaker}
use Rattle.rbac_policy.specs.Causes.{policy_causes}
use Rattle.rbac_policy.proofs.SideCauses.{said_at}
use Rattle.rbac_policy.proofs.filter.Admitted.causes.Goals as goal

pub returns : goal.returns
returns c =
    let rules = c.args.self.now.rules in
    let given : c.named_policies.result.now ≡ rules.policies.items = c.named_policies.ensures in
    let listed : c.list.result.now ≡ rules.list = c.list.ensures in
    MatchResult-weaker c.causes_at.result (rw (given, listed) at c.causes_at.ensures)
    (λ found is. is ∙ said_at (policy_causes c.args.limit c.args.request.now) rules.list rules.policies.items c.args.number rules.ordered)
    (λ e h. h)
