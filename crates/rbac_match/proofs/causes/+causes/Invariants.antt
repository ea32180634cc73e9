use Rattle.std.proofs.Common.{◌≡◌, ◌+◌, ◌*◌, ◌≤◌, ◌++◌, length, map, take}
use Rattle.rbac_match.specs.Causes.{all_causes, first_causes}
use Rattle.rbac_match.specs.private.Causes.{below, causes_in}
use Rattle.rbac_match.specs.private.Nodes.{formulas_in}
use Rattle.rbac_match.proofs.causes.+causes.Given as goal

abbrev pub decreases-node_causes : goal.decreases-node_causes
decreases-node_causes l = 4 * length l.inside.now + 3

abbrev pub decreases-joined_causes : goal.decreases-joined_causes
decreases-joined_causes l = 4 * length l.inside.now + 2

abbrev pub decreases-many_causes : goal.decreases-many_causes
decreases-many_causes l = 4 * length l.nodes.now + 1

abbrev pub decreases-negated_causes : goal.decreases-negated_causes
decreases-negated_causes l = 4 * length l.nodes.now

abbrev pub decreases-first_causes : goal.decreases-first_causes
decreases-first_causes l = 4 * length l.nodes.now

abbrev pub decreases-all_causes : goal.decreases-all_causes
decreases-all_causes l = 4 * length l.nodes.now

abbrev pub invariant-first_causes-loop-node : goal.invariant-first_causes-loop-node
invariant-first_causes-loop-node l = record {
  same : first_causes l.search.request.now l.joint l.index (formulas_in l.search.leaves.now l.rest)
      ≡ first_causes l.search.request.now l.joint 0 (formulas_in l.search.leaves.now l.nodes);
  kept : l.found.items ≡ l.fn.found.items;
  few : length l.found.items ≤ l.search.limit;
  fewer : l.index + length l.rest ≤ length l.nodes;
}

abbrev pub decreases-first_causes-loop-node : goal.decreases-first_causes-loop-node
decreases-first_causes-loop-node l = length l.rest

abbrev pub invariant-all_causes-loop-node : goal.invariant-all_causes-loop-node
invariant-all_causes-loop-node l = record {
  same : take l.search.limit (causes_in l.search.leaves.now l.found.items
      ++ map (below l.path) (all_causes l.search.request.now l.joint l.index (formulas_in l.search.leaves.now l.rest)))
      ≡ take l.search.limit (causes_in l.search.leaves.now l.fn.found.items
      ++ map (below l.path) (all_causes l.search.request.now l.joint 0 (formulas_in l.search.leaves.now l.nodes)));
  few : length l.found.items ≤ l.search.limit;
  fewer : l.index + length l.rest ≤ length l.nodes;
}

abbrev pub decreases-all_causes-loop-node : goal.decreases-all_causes-loop-node
decreases-all_causes-loop-node l = length l.rest
