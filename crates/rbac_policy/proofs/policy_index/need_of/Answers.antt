use Rattle.rbac_policy.specs.Named.{policy_view}
use Rattle.rbac_policy.proofs.IndexLemmas.{need_is}
use Rattle.rbac_policy.proofs.policy_index.need_of.Goals as goal

pub returns : goal.returns
returns c = need_is c.args.most c.args.name.now (policy_view c.args.list.now c.args.policy.now) c.path_start-start.result.now _
    c.path_start-start.ensures c.lesser-count.ensures.0 c.lesser-count.ensures.1 c.number_from.ensures c.value_needed.ensures c.value_needed-2.ensures
