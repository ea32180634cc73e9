use Rattle.std.proofs.Common.{◌≡◌, ◌+◌, ◌*◌, ◌≤◌, length}
use Rattle.rbac_match.specs.Formula.{all_hold, some_hold}
use Rattle.rbac_match.specs.private.Nodes.{formulas_in}
use Rattle.rbac_match.proofs.matching.+matching.Given as goal

abbrev pub decreases-node_matches : goal.decreases-node_matches
decreases-node_matches l = 3 * length l.inside.now + 2

abbrev pub decreases-joined_match : goal.decreases-joined_match
decreases-joined_match l = 3 * length l.inside.now + 1

abbrev pub decreases-first_matches : goal.decreases-first_matches
decreases-first_matches l = 3 * length l.nodes.now

abbrev pub decreases-all_match : goal.decreases-all_match
decreases-all_match l = 3 * length l.nodes.now

abbrev pub decreases-some_match : goal.decreases-some_match
decreases-some_match l = 3 * length l.nodes.now

abbrev pub invariant-all_match-loop-node : goal.invariant-all_match-loop-node
invariant-all_match-loop-node l = record {
  same : all_hold l.request (formulas_in l.leaves l.rest) ≡ all_hold l.request (formulas_in l.leaves l.nodes);
  fewer : length l.rest ≤ length l.nodes;
}

abbrev pub decreases-all_match-loop-node : goal.decreases-all_match-loop-node
decreases-all_match-loop-node l = length l.rest

abbrev pub invariant-some_match-loop-node : goal.invariant-some_match-loop-node
invariant-some_match-loop-node l = record {
  same : some_hold l.request (formulas_in l.leaves l.rest) ≡ some_hold l.request (formulas_in l.leaves l.nodes);
  fewer : length l.rest ≤ length l.nodes;
}

abbrev pub decreases-some_match-loop-node : goal.decreases-some_match-loop-node
decreases-some_match-loop-node l = length l.rest
