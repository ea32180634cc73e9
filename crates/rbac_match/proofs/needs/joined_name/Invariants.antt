use Rattle.std.proofs.Common.{◌≤◌, length}
use Rattle.rbac_match.proofs.needs.joined_name.Given as goal

abbrev pub invariant-loop-node : goal.invariant-loop-node
invariant-loop-node l = length l.rest ≤ length l.nodes

abbrev pub decreases-loop-node : goal.decreases-loop-node
decreases-loop-node l = length l.rest
