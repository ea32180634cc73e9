use Rattle.std.proofs.Common.{◌≡◌, ◌≤◌, ◌⊎◌, [], true, length}
use Rattle.std.specs.Prelude.{unwrap_or}
use Rattle.attributes.specs.Request.{RequestValue, header_of}
use Rattle.rbac_match.specs.Formula.{some_hold}
use Rattle.rbac_match.specs.private.Nodes.{formulas_in}
use Rattle.rbac_match.proofs.needs.all_need.Given as goal

abbrev pub invariant-loop-node : goal.invariant-loop-node
invariant-loop-node l = record {
  rules : (r : RequestValue) → some_hold r (formulas_in l.leaves l.nodes) ≡ true
      → (unwrap_or (header_of r l.name) [] ≡ l.value) ⊎ (some_hold r (formulas_in l.leaves l.rest) ≡ true);
  fewer : length l.rest ≤ length l.nodes;
}

abbrev pub decreases-loop-node : goal.decreases-loop-node
decreases-loop-node l = length l.rest
