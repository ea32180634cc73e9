use Rattle.rbac_match.specs.View.{rules_view}
use Rattle.rbac_policy.proofs.IndexLemmas.{value_is_needed}
use Rattle.rbac_policy.proofs.policy_index.value_needed.Goals as goal

pub returns-in-Some : goal.returns-in-Some
returns-in-Some c = λ r some nonzero.
    value_is_needed (rules_view c.args.list.now c.args.rules) c.args.name.now c.in-Some.value.now c.number_of_value.result
    c.in-Some.ensures c.number_of_value.ensures r some
