use Rattle.std.proofs.Common.{◌≡◌, ◌≤◌, true, length}
use Rattle.attributes.specs.Request.{RequestValue}
use Rattle.rbac_match.specs.Formula.{all_hold}
use Rattle.rbac_match.specs.private.Nodes.{formulas_in}
use Rattle.rbac_match.proofs.needs.joined_start.Given as goal

abbrev pub invariant-loop-node : goal.invariant-loop-node
invariant-loop-node l = record {
  all : (r : RequestValue) → all_hold r (formulas_in l.leaves l.nodes) ≡ true → all_hold r (formulas_in l.leaves l.rest) ≡ true;
  fewer : length l.rest ≤ length l.nodes;
}

abbrev pub decreases-loop-node : goal.decreases-loop-node
decreases-loop-node l = length l.rest
