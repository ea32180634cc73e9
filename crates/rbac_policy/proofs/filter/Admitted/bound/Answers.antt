use Rattle.std.proofs.Common.{ap, sym, ◌∙◌}
use Rattle.cost_bound.specs.declared.budget.Budget.{Budget}
use Rattle.rbac_policy.specs.Named.{named_views}
use Rattle.rbac_policy.proofs.Besides.{t_of}
use Rattle.rbac_policy.proofs.Enforcing.{total_of}
use Rattle.rbac_policy.proofs.filter.Admitted.bound.Goals as goal

pub returns : goal.returns
returns c =
    let rules = c.args.self.now.rules in
    rules.bounded
    ∙ ap (λ (b : Budget). b.steps)
    (sym (total_of c.args.self.now.limits rules.action (named_views rules.list rules.policies.items) (t_of _ rules.ordered)))
