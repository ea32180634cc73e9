use Rattle.std.proofs.Common.{length}
use Rattle.rbac_match.specs.declared.list.Node.TheVariants.{Any}
use Rattle.rbac_match.proofs.NodeLists.{has_push}
use Rattle.rbac_match.proofs.list.RuleList.add_any.Goals as goal

pub invariant_of-self-2 : goal.invariant_of-self-2
invariant_of-self-2 c = rw c.in_ok-push.ensures.items
    (has_push (length c.self.inside.leaves) c.self.inside.nodes.items Any c.self.invariant tt)
