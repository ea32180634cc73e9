use Rattle.std.proofs.Common.{map}
use Rattle.std.specs.String.{string_bytes}
use Rattle.rbac_policy.specs.Named.{policy_view}
use Rattle.rbac_policy.proofs.IndexLemmas.{needed_none}
use Rattle.rbac_policy.proofs.policy_index.PolicyIndex.of.Goals as goal

pub returns-then-policies-lt-FEWEST : goal.returns-then-policies-lt-FEWEST
returns-then-policies-lt-FEWEST c =
    needed_none c.most_count-most.result (string_bytes c.in_ok-name.name) (map (policy_view c.args.list.now) c.args.policies.now)
    c.new.result.items c.new.ensures.items

pub returns : goal.returns
returns c = rw c.as_str.ensures.value at c.in_ok-needs.ensures
