use Rattle.std.proofs.Common.{◌+◌, ◌*◌, map, take}
use Rattle.proto_wire.specs.Fields.{field_view}
use Rattle.proto_wire.specs.Values.{payloads}
use Rattle.rbac_match.specs.Rules.{IsRule, AreRules}
use Rattle.rbac_match.specs.Tokens.{AddsRules}
use Rattle.rbac_match.proofs.read.+rule.Given as goal

abbrev pub decreases-read_rule_at : goal.decreases-read_rule_at
decreases-read_rule_at l = 5 * l.depth

abbrev pub decreases-read_each : goal.decreases-read_each
decreases-read_each l = 5 * l.depth + 1

abbrev pub decreases-read_set : goal.decreases-read_set
decreases-read_set l = 5 * l.depth + 2

abbrev pub decreases-read_member : goal.decreases-read_member
decreases-read_member l = 5 * l.depth + 4

abbrev pub decreases-read_joined : goal.decreases-read_joined
decreases-read_joined l = 5 * l.depth + 3

abbrev pub decreases-read_negated : goal.decreases-read_negated
decreases-read_negated l = 5 * l.depth + 1

abbrev pub invariant-read_each-loop-index : goal.invariant-read_each-loop-index
invariant-read_each-loop-index l =
    AddsRules (AreRules (IsRule l.side l.depth) (payloads l.number (map field_view (take l.index l.fields))))
    l.fn.list l.list
